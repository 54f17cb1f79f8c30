pub mod Answers
pub mod Room
pub mod Walk
pub mod Worked
