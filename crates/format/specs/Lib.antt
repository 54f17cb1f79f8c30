pub mod FirstWrong
pub mod Format
pub mod Items
