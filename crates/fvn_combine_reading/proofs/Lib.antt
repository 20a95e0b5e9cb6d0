-- Lemmas on how states are read.
mod Collected
mod Marking
mod Gathered
mod Heading
