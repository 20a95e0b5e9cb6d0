-- The words of the reply to `work`.
pub mod Made
pub mod Replies
