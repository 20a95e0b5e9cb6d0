-- What the program replies to `verify`.
pub mod Verdicts
pub mod Replies
pub mod inner
