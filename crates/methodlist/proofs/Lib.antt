mod Answering
pub mod Example
mod Filling
pub mod Listing
