pub mod Answer
pub mod Greatest
pub mod OfBranch
pub mod Scanning
