pub mod Counts
pub mod Needed
