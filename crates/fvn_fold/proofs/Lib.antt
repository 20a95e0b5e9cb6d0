-- The lemmas of the crate.
mod Expansions
mod Gathers
mod Nexts
mod Growing
mod Closed
mod Ends
mod Outcomes
mod Turning
mod Firsts
mod Takings
mod Chunks
mod Shares
mod Begins
mod Rounds
mod Copies
