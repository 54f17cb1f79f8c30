pub mod Length
pub mod Rule
