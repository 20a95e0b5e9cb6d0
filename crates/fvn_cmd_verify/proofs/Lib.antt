-- Lemmas of this crate.
mod Told
mod Asking
