-- So many pairs are copied.
use Rattle.std.proofs.Common.{◌≡◌, take}
use Rattle.fvn_remembering.proofs.copying.copied.Given as goal

abbrev pub invariant-loop-i : goal.invariant-loop-i
invariant-loop-i l = l.all ≡ take l.i l.s
