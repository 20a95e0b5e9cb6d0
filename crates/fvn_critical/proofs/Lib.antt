-- Lemmas of the test of confluence.
mod Renewed
mod Compared
mod Forms
mod Trying
mod Posed
mod Joining
mod Covering
mod Answering
mod Subsuming
mod Assembling
