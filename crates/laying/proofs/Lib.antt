pub mod Groups
pub mod Over
pub mod Worked
