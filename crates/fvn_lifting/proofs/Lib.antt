-- Lemmas of lifting; the public ones are for callers.
pub mod Chosen
pub mod Renamed
mod Joining
mod Meeting
pub mod Parts
mod Summands
mod Singles
pub mod PairForms
pub mod Parting
pub mod PairSteps
mod PairRules
mod Within
mod PairTurns
pub mod Stepping
mod Renaming
mod Turning
mod Lifting
