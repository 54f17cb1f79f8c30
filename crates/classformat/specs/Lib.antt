pub mod ClassFile
pub mod Contents
