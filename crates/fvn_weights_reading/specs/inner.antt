-- What the steps of the reader answer.
pub mod Split
pub mod Steps
