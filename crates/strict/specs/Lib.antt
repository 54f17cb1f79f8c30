pub mod Declared
pub mod Records
