pub mod Branch
pub mod ByName
pub mod Descriptor
pub mod Extent
pub mod Format
pub mod Laws
pub mod Machine
pub mod Stack
