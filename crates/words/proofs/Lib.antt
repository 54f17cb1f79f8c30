pub mod Wordings
