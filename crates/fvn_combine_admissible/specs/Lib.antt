-- The words of what is asked of a choice: how it is listed, and which classes are aliases.
pub mod Listed
pub mod Aliases
pub mod inner
