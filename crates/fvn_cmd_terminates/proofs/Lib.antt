-- Lemmas of this crate.
mod Told
