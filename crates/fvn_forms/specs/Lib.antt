-- The words of flat forms, of good signatures and of least sorts.
pub mod Flat
pub mod Order
pub mod InOrder
pub mod Canon
pub mod Settled
pub mod FitsKinds
pub mod SortOrder
pub mod Ranks
pub mod Good
pub mod LeastSort
pub mod Laws
