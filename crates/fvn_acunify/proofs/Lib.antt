-- Lemmas on sums, on choices and on refusals.
mod ColumnSums
mod Prefixes
mod ChosenBits
mod Cursors
mod RefusalLemmas
