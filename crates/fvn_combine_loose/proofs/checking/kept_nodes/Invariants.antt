-- The marks so far, of as many nodes.
use Rattle.std.proofs.Common.{◌≡◌, length}
use Rattle.fvn_combine_loose.specs.inner.Checks.{EachIsKept}
use Rattle.fvn_combine_loose.proofs.checking.kept_nodes.Given as goal

abbrev pub invariant-loop-i : goal.invariant-loop-i
invariant-loop-i l = (length l.marks.items ≡ l.i) × EachIsKept l.sig l.table l.state l.marks.items
