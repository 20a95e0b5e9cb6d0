-- The best so far is a clash.
use Rattle.std.specs.Prelude.{IfSome}
use Rattle.fvn_combine_inferring.specs.inner.Clashes.{IsClash}
use Rattle.fvn_combine_inferring.proofs.clashing.least_clash.Given as goal

abbrev pub invariant-loop-i : goal.invariant-loop-i
invariant-loop-i l = IfSome l.best (IsClash l.sig l.table l.state l.known.sorted)
