-- nothing was taken, and of the pieces so far none is left that is the form
use Rattle.std.proofs.Common.{◌≡◌, drop}
use Rattle.fvn_match.specs.inner.Tallies.{tally}
use Rattle.fvn_match.specs.inner.Summands.{references}
use Rattle.fvn_match.proofs.summands.take_one.Given as goal

abbrev pub invariant-loop-i : goal.invariant-loop-i
invariant-loop-i l = record {
  kept : l.left.items ≡ l.initial.left.items;
  passed : tally l.u (references l.pieces) l.left.items ≡ tally l.u (drop l.i (references l.pieces)) (drop l.i l.left.items);
}
