-- Lemmas on flat forms and least sorts; the public ones are for callers.
pub mod Order
pub mod InOrder
pub mod Sums
pub mod Build
pub mod Eval
pub mod KindsKept
mod Nests
pub mod ToCanon
pub mod SortOrder
pub mod SortTests
mod RanksAgree
pub mod Results
mod Folds
pub mod KindsOfSums
mod RawSorts
mod SortsOfSums
pub mod LeastSort
pub mod Induction
pub mod Instances
pub mod Sizes
pub mod LeastSortOf
mod Examples
