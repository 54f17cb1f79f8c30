pub mod Entries
pub mod Example
pub mod Filling
pub mod Serving
pub mod Tags
