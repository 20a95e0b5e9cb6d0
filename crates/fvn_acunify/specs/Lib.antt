-- The words of theories, of valid choices and of what is still to come.
pub mod Theory
pub mod ValidChoice
pub mod Cursor
pub mod Laws
pub mod inner
