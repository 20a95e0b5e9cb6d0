-- The lemmas of the crate.
mod Linearity
mod Kept
mod Falling
mod Capping
mod FitTests
mod Firsts
mod Placing
mod Starting
mod Adding
mod FormTests
mod Equations
