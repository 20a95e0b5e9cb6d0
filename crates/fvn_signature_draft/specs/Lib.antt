-- Signatures as they are collected and completed, and their drafts.
pub mod Collected
pub mod Alike
pub mod DraftOf
pub mod Tops
pub mod Laws
pub mod inner
