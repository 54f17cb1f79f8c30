pub mod Asked
pub mod First
pub mod Member
pub mod Record
