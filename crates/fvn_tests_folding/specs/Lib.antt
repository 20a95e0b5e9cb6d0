-- What contracts of the tests speak of.
pub mod Nothing
