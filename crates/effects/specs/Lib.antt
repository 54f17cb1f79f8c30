pub mod Agreement
pub mod Depth
pub mod Lookup
pub mod Rows
