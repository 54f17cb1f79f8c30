pub mod Scan
pub mod Targets
