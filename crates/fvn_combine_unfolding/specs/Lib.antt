-- The words of unfolding: bindings that fit, and sizes that add up.
pub mod Sizes
pub mod inner
