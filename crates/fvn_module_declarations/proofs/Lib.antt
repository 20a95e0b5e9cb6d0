-- The lemmas of the crate.
mod PairTables
mod DistinctLists
mod CodeLemmas
mod DraftLemmas
mod RankLemmas
mod Drafted
mod Collecting
mod NamedRanks
mod LongRanks
pub mod ClosedModules
