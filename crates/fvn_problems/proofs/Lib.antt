-- Lemmas of the readers; the public ones are for callers.
pub mod Fitting
mod Spelled
mod Splitting
mod Pairs
mod Named
mod Occurring
mod Answering
mod QueryTexts
mod ProblemTexts
mod Sorts
mod SortWalk
mod TextSplits
mod Writing
mod Keys
mod Binding
mod BindingTexts
mod OneFault
mod Results
mod WordNames
mod DistinctNames
