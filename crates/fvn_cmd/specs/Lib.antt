-- The words of the contracts of this crate.
pub mod Statuses
pub mod Ends
pub mod Texts
pub mod Asking
pub mod Refusing
pub mod Headline
pub mod Causes
pub mod Laws
