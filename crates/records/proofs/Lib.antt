pub mod Agree
pub mod Eights
pub mod Fill
pub mod Search
pub mod Within
