-- Lemmas of closed levels; the public ones are for callers.
pub mod Known
mod Places
pub mod Renamings
pub mod Following
mod Found
pub mod Carrying
mod Descending
pub mod Starting
mod Ending
pub mod OneMore
