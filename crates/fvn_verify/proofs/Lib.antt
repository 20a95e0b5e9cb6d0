-- The lemmas of the crate.
mod Forms
mod Comparisons
mod Agreeing
mod WithoutEquations
