-- What contracts of these tests speak of.
pub mod Settings
pub mod Asked
