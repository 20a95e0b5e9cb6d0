-- The lemmas of the crate.
mod Simple
mod Ordering
mod Notes
mod Naming
mod Members
mod Occurring
mod Classes
mod Sources
mod Summing
mod Fronts
mod BoundAt
mod Standing
mod Sharing
mod Bound
mod Forms
mod Made
mod Parts
mod PlanBy
mod Reaching
mod BindingsBy
mod Fitted
mod NoOrder
pub mod Planned
