-- Lemmas on fixed terms.
mod Keeping
mod Asking
