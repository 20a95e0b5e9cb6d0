-- So many pairs are copied.
use Rattle.std.proofs.Common.{◌≡◌, take}
use Rattle.fvn_axunify.proofs.problem.copied_pairs.Given as goal

abbrev pub invariant-loop-a : goal.invariant-loop-a
invariant-loop-a l = l.all.items ≡ take l.a-index l.pairs
