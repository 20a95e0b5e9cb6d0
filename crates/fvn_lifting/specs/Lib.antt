-- The words of lifting.
pub mod Meetings
pub mod Turns
pub mod Lifted
pub mod Pairs
pub mod Laws
