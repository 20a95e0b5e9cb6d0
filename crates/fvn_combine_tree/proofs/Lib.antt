-- Lemmas on how tables are built, how states are closed, and how trees are asked.
mod Entering
mod Walking
mod Pairing
mod Entries
mod Once
mod Tables
mod Moves
mod Joining
mod Alike
mod Chaining
mod Settling
mod Openness
mod Starting
pub mod Powers
mod Growing
