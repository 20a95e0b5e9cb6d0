-- Lemmas of peaks.
mod TwoPlaces
mod Joins
mod Runs
mod Changing
mod Overlaps
mod Themselves
mod OverlapSteps
mod Newman
