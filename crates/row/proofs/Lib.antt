pub mod Few
pub mod Full
pub mod Laws
pub mod OfOpcode
pub mod Places
