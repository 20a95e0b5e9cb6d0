-- The best so far is a clash.
use Rattle.std.specs.Prelude.{IfSome}
use Rattle.fvn_combine_inferring.specs.inner.Clashes.{IsClash}
use Rattle.fvn_combine_inferring.proofs.clashing.clash_with_sums.Given as goal

abbrev pub invariant-loop-j : goal.invariant-loop-j
invariant-loop-j l = IfSome l.best (IsClash l.sig l.table l.state l.known.sorted)
