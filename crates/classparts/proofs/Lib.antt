pub mod Example
pub mod Members
pub mod Methods
pub mod Reading
pub mod Serving
