pub mod Layout
pub mod LocalRecord
pub mod Member
