pub mod Depths
pub mod Forms
pub mod Known
pub mod Results
pub mod Rows
pub mod Weights
