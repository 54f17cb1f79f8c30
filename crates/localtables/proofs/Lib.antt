pub mod Behind
pub mod First
mod Walking
