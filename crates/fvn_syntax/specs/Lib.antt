-- How sorts and terms are written, and what they stand for.
pub mod Behind
pub mod Laws
pub mod Names
pub mod Pieces
pub mod Raw
pub mod Readings
pub mod Resolve
pub mod Scope
pub mod Texts
pub mod inner
