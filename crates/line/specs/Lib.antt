pub mod Head
pub mod Pieces
