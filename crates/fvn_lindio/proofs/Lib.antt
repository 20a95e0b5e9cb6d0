-- Lemmas on vectors and rows, the search for minimal solutions and the prefixes that are refused.
mod VectorLemmas
mod Solving
mod SumLemmas
mod ValueLemmas
mod LevelLemmas
mod SearchLemmas
mod Trails
mod GeneratorLemmas
mod ReachLemmas
mod LeastLemmas
mod PairLemmas
mod Pairs
mod Prefixes
mod SystemLemmas
