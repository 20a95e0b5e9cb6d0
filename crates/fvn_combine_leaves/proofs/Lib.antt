-- Lemmas on readings of states.
mod Using
pub mod ReadOfState
