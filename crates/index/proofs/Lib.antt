pub mod Skipping
pub mod Tables
