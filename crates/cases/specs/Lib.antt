pub mod FirstWrong
pub mod Item
pub mod LaidOut
pub mod Listed
pub mod Lookup
pub mod Reasons
pub mod Standing
