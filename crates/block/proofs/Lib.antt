pub mod Copying
pub mod Laying
pub mod Looping
pub mod Stepping
pub mod Walking
