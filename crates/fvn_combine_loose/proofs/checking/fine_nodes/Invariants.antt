-- The marks so far, of as many nodes.
use Rattle.std.proofs.Common.{◌≡◌, length}
use Rattle.fvn_combine_loose.specs.inner.Checks.{EachIsFine}
use Rattle.fvn_combine_loose.proofs.checking.fine_nodes.Given as goal

abbrev pub invariant-loop-i : goal.invariant-loop-i
invariant-loop-i l = (length l.marks.items ≡ l.i) × EachIsFine l.sig l.table l.state l.heads l.marks.items
