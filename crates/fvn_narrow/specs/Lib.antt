-- What the contract of narrowing speaks of.
pub mod Settings
pub mod inner
