pub mod Alike
pub mod Asks
pub mod Calls
pub mod Cells
pub mod Ends
pub mod Extends
