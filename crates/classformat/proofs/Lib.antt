pub mod Example
pub mod Unlike
