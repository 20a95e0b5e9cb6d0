-- The copies so far.
use Rattle.std.proofs.Common.{◌≡◌, take}
use Rattle.fvn_flat.proofs.substitution.Subst.copied.Given as goal

abbrev pub invariant-loop-x : goal.invariant-loop-x
invariant-loop-x l = l.pairs.items ≡ take l.x-index l.x-items
