pub mod Parts
pub mod Right
