pub mod First
pub mod Search
