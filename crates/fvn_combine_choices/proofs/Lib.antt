-- Lemmas of choices and of their plans; the public ones are for callers.
pub mod Triangular
pub mod Kinded
mod Places
pub mod Columns
pub mod Using
pub mod Solids
mod Valid
mod Planned
mod Bound
mod Parts
mod Members
mod Standing
pub mod KindsOf
mod Kinding
mod Counts
mod Values
mod Occurring
mod Solved
mod New
mod Pieces
mod Alone
mod Measured
mod Sizes
mod OneKind
