-- The lemmas of the crate.
pub mod Entries
mod Systems
mod Refused
mod Fullness
mod Possible
mod Bounded
mod Tagged
mod Alike
mod Covered
mod Walked
mod Ordered
mod Setting
mod Few
mod Absorbing
mod Letting
mod Turned
mod Zeroed
mod Inserted
mod Living
