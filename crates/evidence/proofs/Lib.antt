pub mod Constant
pub mod Delivered
pub mod Evidence
pub mod Example
pub mod Kind
pub mod Reserved
