pub mod First
pub mod Locals
