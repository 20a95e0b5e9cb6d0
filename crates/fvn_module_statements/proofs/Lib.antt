-- Lemmas of this crate; the public ones are for callers.
mod Unequal
mod GatherExact
mod Gathering
mod SortExact
mod AttributeExact
mod NamesExact
mod OperatorNamesExact
pub mod Sides
mod EquationExact
mod StatementExact
mod AttributeLeftOut
mod NameLeftOut
mod EquationLeftOut
mod LeftOutExact
mod Results
mod FormExact
mod BodyReading
