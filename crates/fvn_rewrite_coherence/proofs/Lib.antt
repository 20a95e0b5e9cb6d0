-- Lemmas of coherence; the public ones are for callers.
mod Tight
mod Members
mod TightSteps
mod SumSteps
mod ArgumentSteps
mod PlaceInduction
mod Tightening
mod InsideSteps
mod Extending
mod Redexes
mod Coherence
mod SortSteps
mod FormLists
mod SummandPlaces
mod InstancePlaces
mod InstanceSteps
