-- The copies so far.
use Rattle.std.proofs.Common.{◌≡◌, take}
use Rattle.fvn_flat.proofs.replacing.copied.Given as goal

abbrev pub invariant-loop-t : goal.invariant-loop-t
invariant-loop-t l = l.copies.items ≡ take l.t-index l.ts
