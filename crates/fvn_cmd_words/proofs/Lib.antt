-- Lemmas of the reader of words; that words are one command is for others too.
mod Spelling
mod Settings
mod Sorting
mod Gathering
pub mod Naming
mod Keeping
mod Steps
