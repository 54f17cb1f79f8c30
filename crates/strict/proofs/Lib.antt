pub mod Computes
pub mod Meaning
pub mod Spelling
pub mod Standing
pub mod Whole
