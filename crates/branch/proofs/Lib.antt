pub mod OfOpcode
