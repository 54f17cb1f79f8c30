pub mod Knowing
pub mod Laws
