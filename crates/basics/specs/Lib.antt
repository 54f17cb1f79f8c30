pub mod Ascii
pub mod Bytes
pub mod Choice
pub mod Each
pub mod Member
pub mod Parts
