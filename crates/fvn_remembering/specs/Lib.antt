-- The words of kept answers.
pub mod Answers
