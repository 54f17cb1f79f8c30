pub mod Decoding
pub mod Inside
