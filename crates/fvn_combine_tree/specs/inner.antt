-- What mirrors the code.
pub mod Drafts
pub mod Chains
pub mod Closing
pub mod Rounds
pub mod Starts
