pub mod Bytewise
pub mod Eight
pub mod Left
