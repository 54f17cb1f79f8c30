pub mod Few
pub mod Listing
pub mod Return
pub mod Turns
