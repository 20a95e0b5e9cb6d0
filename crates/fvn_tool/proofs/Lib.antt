-- Lemmas of this crate; none is for other crates.
mod Grammar
mod Outcomes
mod Questions
mod Replying
mod Claims
mod Determined
