-- The words of the reply to `variants`.
pub mod Asked
pub mod Solutions
pub mod Replies
pub mod Laws
pub mod inner
