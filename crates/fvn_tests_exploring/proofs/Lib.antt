-- Lemmas on rewriting without equations.
mod NoEquations
