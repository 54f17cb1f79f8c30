pub mod Calls
pub mod Cells
pub mod Comes
pub mod Marks
pub mod Models
