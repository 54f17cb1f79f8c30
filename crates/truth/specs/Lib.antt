pub mod Cause
pub mod Condition
pub mod Example
pub mod Relation
pub mod Translation
