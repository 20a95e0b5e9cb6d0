-- What the code goes through.
pub mod Words
