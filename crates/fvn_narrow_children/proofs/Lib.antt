-- Lemmas on renamed variants and children; the public ones are for callers.
mod NewNames
mod StartFacts
mod BoundFacts
pub mod ValueFacts
mod RestFacts
mod MovedFacts
mod TriedFacts
mod GrownFacts
