pub mod List
pub mod Listing
