-- The texts of refusals, and of what modules declare.
pub mod Refusals
pub mod ProblemRefusals
pub mod Summaries
pub mod Verdicts
pub mod Weighings
