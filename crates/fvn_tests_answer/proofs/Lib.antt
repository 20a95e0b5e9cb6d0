-- Lemmas of the tests.
mod Asking
mod Filling
