-- The fresh variables so far.
use Rattle.std.proofs.Common.{◌≡◌, ◌+◌, take}
use Rattle.fvn_flat.specs.Variables.{renaming}
use Rattle.fvn_flat.proofs.renaming.renaming.Given as goal

abbrev pub invariant-loop-x : goal.invariant-loop-x
invariant-loop-x l = record {
  pairs : l.pairs.items ≡ renaming l.first (take l.x-index l.vars);
  at : l.next ≡ l.first + l.x-index;
}
