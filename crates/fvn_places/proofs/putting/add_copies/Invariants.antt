-- The copies so far.
use Rattle.std.proofs.Common.{◌≡◌, ◌++◌, take}
use Rattle.fvn_places.proofs.putting.add_copies.Given as goal

abbrev pub invariant-loop-t : goal.invariant-loop-t
invariant-loop-t l = l.all.items ≡ l.initial.all.items ++ take l.t-index l.ts
