-- Words that every crate uses.
pub mod Decided
pub mod Limits
pub mod Listed
pub mod Order
pub mod Laws
