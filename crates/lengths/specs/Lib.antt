pub mod Agreement
pub mod Reserved
