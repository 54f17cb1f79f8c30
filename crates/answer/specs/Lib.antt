pub mod Answer
pub mod Answers
