-- The words of supports: counts that are made up of pieces, and what they ask of a choice.
pub mod Pieces
pub mod Laws
