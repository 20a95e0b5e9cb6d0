-- The words of the reply to `terminates`.
pub mod Weighings
pub mod Replies
pub mod inner
