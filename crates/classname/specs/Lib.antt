pub mod ClassName
