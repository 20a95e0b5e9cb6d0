-- The words of closed levels.
pub mod Closing
pub mod Laws
