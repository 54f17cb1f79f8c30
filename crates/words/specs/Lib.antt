pub mod Wording
pub mod Words
