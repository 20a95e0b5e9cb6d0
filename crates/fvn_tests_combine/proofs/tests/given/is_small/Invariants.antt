-- What is counted and what is left are all symbols.
use Rattle.std.proofs.Common.{◌≡◌, ◌+◌, ◌≤◌, drop}
use Rattle.fvn_flat.specs.Solving.{symbols_of_pairs}
use Rattle.fvn_tests_combine.proofs.tests.given.is_small.Given as goal

abbrev pub invariant-loop-l : goal.invariant-loop-l
invariant-loop-l l = (symbols_of_pairs l.problem.pairs ≡ l.total + symbols_of_pairs (drop l.l-index l.l-items)) × (l.total ≤ 900)
