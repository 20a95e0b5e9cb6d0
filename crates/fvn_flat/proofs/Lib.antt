-- The lemmas of the crate.
mod Symbols
pub mod Occurrences
mod Comparisons
mod Views
pub mod Smaller
mod SortedLists
mod Summands
mod Built
mod Nesting
pub mod Evaluation
mod Gathering
pub mod Fitting
pub mod Rebuilding
pub mod Instances
pub mod Binding
mod Listed
pub mod Composing
pub mod ListedVariables
mod Renamings
mod SortsOfFlats
mod KindsOfFlats
pub mod VariableLists
mod OneAnswer
mod PlainAnswers
mod Examples
mod ExampleLists
mod ExampleSystems
mod ExampleSums
mod ExampleRules
mod ExamplePlaces
mod ExampleSuccessors
mod ExampleParts
