pub mod Agree
pub mod Reserved
pub mod Signed
