-- Lemmas on the ranks that give a sort, on the sorts of terms and of sums.
mod Giving
mod SortLemmas
mod Summands
