-- What contracts of an expander without equations speak of.
pub mod Settings
