pub mod Agree
pub mod Run
