-- The words of sorts that admit sums and identities.
pub mod Admitting
pub mod Laws
