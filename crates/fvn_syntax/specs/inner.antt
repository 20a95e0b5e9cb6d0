-- The readers as functions on lists of pieces.
pub mod Colons
pub mod Form
pub mod Reading
