-- The lemmas of the crate.
mod Steps
mod SameSymbols
mod Arguments
mod Noting
mod Parts
mod Keeping
mod Instances
mod Occurring
mod Profiling
mod Refusals
mod WordBits
mod SetBits
mod MarkFacts
mod MarkRefusals
mod Holding
