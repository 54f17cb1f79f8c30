pub mod Effects
pub mod Laws
pub mod Slots
