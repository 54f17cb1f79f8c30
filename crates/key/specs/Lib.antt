pub mod Key
pub mod Laws
