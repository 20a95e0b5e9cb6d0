-- Drafts of signatures, their queries and laws.
pub mod FirstSorts
pub mod Words
pub mod Drafts
pub mod FoundAlike
pub mod Joined
pub mod Queries
pub mod Laws
pub mod inner
