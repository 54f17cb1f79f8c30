pub mod ByDocument
pub mod Declared
pub mod Landings
pub mod Most
pub mod Reserved
