pub mod Counts
pub mod Numbered
pub mod Once
