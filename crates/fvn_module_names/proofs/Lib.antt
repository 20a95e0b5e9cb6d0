-- Lemmas on names and kinds; the public ones are for callers.
mod ClassLemmas
mod Links
mod JoinLemmas
pub mod NewLists
pub mod Partitions
pub mod OrderLemmas
mod KindNumbers
mod Tested
pub mod TextCounts
pub mod VariableSorts
