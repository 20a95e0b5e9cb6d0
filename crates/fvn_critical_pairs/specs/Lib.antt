-- The words of critical pairs.
pub mod Overlaps
pub mod Divergence
pub mod Laws
