-- How statements are spelled, and which of them can be written.
pub mod Spelling
pub mod Words
pub mod LeftOut
pub mod Written
