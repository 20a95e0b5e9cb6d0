-- Lemmas on combinations of vectors, on pieces, and on the choice that they make.
pub mod Combining
mod Summing
mod Placing
mod Picking
mod Choosing
