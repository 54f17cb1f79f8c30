pub mod Alike
pub mod Example
pub mod Listing
pub mod OneType
pub mod Slots
pub mod Turning
