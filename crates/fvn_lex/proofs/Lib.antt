-- Lemmas on bytes, on the reading of a text and on its rows of parts; the public ones are for callers.
mod ByteLemmas
mod CutLemmas
pub mod JoinLemmas
mod Reading
pub mod RowPieces
mod RowReading
mod Rows
mod SpaceLemmas
mod SpanLemmas
mod TrailLemmas
pub mod WordLemmas
