-- What the loops of `copy` keep.
use Rattle.std.proofs.Common.{◌≡◌, take}
use Rattle.fvn_terms.proofs.plain.+copy.Given as goal

-- the copies so far
abbrev pub invariant-Args::copy-loop-t : goal.invariant-Args::copy-loop-t
invariant-Args::copy-loop-t l = l.items.items ≡ take l.t-index l.t-items
