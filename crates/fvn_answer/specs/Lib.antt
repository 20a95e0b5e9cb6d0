-- The words of lines and answer texts.
pub mod Answers
pub mod Asked
pub mod Denoting
pub mod Laws
pub mod Lines
pub mod Numberings
pub mod Writing
pub mod inner
