pub mod Commas
pub mod Names
