pub mod Leader
pub mod Reserved
