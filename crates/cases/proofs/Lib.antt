pub mod Declared
pub mod Found
pub mod Groups
pub mod Items
pub mod Laying
pub mod Listed
pub mod Reading
pub mod Reasons
