pub mod Numbers
pub mod Word
