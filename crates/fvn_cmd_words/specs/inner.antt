-- The reader of words, as a function, and what it keeps.
pub mod Reading
pub mod Keeping
