pub mod Actions
pub mod Cause
pub mod Cells
pub mod Elsewhere
pub mod Reports
pub mod Walk
