pub mod Action
pub mod Counts
pub mod Message
pub mod Names
pub mod Texts
