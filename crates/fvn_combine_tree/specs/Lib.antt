-- The words of questions on the nodes of a table, and of trees of what is left to decide.
pub mod Questions
pub mod Trees
pub mod inner
