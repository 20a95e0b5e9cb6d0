-- Lemmas on terms, substitutions and steps; the public ones are for callers.
pub mod AxiomWords
pub mod Variables
pub mod Plains
pub mod Substitutions
pub mod Steps
pub mod Equal
pub mod WellSorted
pub mod Free
mod Packs
mod TheoryLaws
pub mod CompleteSets
pub mod Instances
pub mod Occurrences
mod Rewriting
mod Covering
