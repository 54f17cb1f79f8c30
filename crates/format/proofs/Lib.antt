pub mod Items
pub mod Making
pub mod Reading
pub mod Was
