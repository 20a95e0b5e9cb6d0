-- What the search for valid choices goes over.
pub mod Prefix
