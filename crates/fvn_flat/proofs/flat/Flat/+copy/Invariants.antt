-- The copies so far.
use Rattle.std.proofs.Common.{◌≡◌, take}
use Rattle.fvn_flat.proofs.flat.Flat.+copy.Given as goal

abbrev pub invariant-loop-t : goal.invariant-loop-t
invariant-loop-t l = l.items.items ≡ take l.t-index l.t-items
