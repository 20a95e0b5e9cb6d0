-- Lemmas on questions.
mod Swapping
mod Walked
mod Passing
mod ColumnsOfLeaves
mod SummandsOfLeaves
mod AskedOfLeaves
mod Unfilled
mod Labelled
mod Ranking
