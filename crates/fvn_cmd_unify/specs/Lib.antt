-- The words of the reply to `unify`.
pub mod Asked
pub mod Ends
pub mod Coarser
pub mod Solutions
pub mod Replies
pub mod Laws
pub mod inner
