-- The words of the contracts of this crate.
pub mod Faults
pub mod Source
pub mod Sink
pub mod Calls
pub mod Memory
pub mod Standard
