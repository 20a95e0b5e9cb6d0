-- So many are copied.
use Rattle.std.proofs.Common.{◌≡◌, take}
use Rattle.fvn_remembering.proofs.copying.copies.Given as goal

abbrev pub invariant-loop-s : goal.invariant-loop-s
invariant-loop-s l = l.all.items ≡ take l.s-index l.unifiers
