pub mod Runs
pub mod Within
