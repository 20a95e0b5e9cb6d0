-- What statements declare.
pub mod Operators
pub mod Module
pub mod Answer
pub mod inner
