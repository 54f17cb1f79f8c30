pub mod Bounds
pub mod OneType
