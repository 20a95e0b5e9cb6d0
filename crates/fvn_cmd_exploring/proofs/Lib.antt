-- Lemmas on what is explored in a module, for callers.
pub mod Settings
pub mod Ending
pub mod Runs
