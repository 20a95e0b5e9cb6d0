-- Facts about lists and about what holds or does not, for every crate.
pub mod Decided
pub mod Drops
pub mod MappedLists
pub mod Membership
pub mod Options
pub mod Order
pub mod Pigeonhole
