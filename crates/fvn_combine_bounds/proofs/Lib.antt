-- Lemmas on solutions that are taken, on the values of variables, and on lists of columns.
mod Counting
mod Sorted
mod Neutral
mod Listing
mod Covering
