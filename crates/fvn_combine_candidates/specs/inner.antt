-- What mirrors the code.
pub mod Walking
pub mod Solved
pub mod Turned
pub mod Alive
pub mod Placed
pub mod Letting
