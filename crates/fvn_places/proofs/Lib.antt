-- Lemmas on paths and clashes; the public ones are for callers.
mod Measures
pub mod PathFacts
pub mod ClashFacts
pub mod SumClashes
pub mod Replacing
mod Arguments
