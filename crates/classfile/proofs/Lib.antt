pub mod Starting
pub mod Whole
