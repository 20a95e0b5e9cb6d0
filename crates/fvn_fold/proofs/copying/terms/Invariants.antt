-- the terms so far
use Rattle.std.proofs.Common.{◌≡◌, take}
use Rattle.fvn_fold.proofs.copying.terms.Given as goal

abbrev pub invariant-loop-t : goal.invariant-loop-t
invariant-loop-t l = l.all.items ≡ take l.t-index l.ts
