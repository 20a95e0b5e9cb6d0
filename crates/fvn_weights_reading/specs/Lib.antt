-- What contracts of the reader of weights speak of.
pub mod Spelling
pub mod Reading
pub mod Laws
pub mod inner
