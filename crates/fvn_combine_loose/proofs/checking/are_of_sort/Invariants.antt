-- The nodes so far are of the sort.
use Rattle.std.proofs.Common.{ℕ, ◌<◌}
use Rattle.fvn_combine_loose.specs.inner.Checks.{IsOfSort}
use Rattle.fvn_combine_loose.proofs.checking.are_of_sort.Given as goal

abbrev pub invariant-loop-j : goal.invariant-loop-j
invariant-loop-j l = (k : ℕ) → k < l.j → IsOfSort l.sig l.table l.state l.i l.sort k
