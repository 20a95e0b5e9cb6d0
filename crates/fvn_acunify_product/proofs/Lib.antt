-- Lemmas on the steps of odometers and on ranks.
mod Ranks
mod Stepping
mod WheelSteps
mod Left
mod Skips
