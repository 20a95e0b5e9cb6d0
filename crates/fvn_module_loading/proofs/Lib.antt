-- Lemmas on first faults.
mod Firsts
mod LeftFaults
mod Losses
mod Loaded
