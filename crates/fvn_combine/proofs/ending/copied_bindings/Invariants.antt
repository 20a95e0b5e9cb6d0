-- So many bindings are copied.
use Rattle.std.proofs.Common.{◌≡◌, take}
use Rattle.fvn_combine.proofs.ending.copied_bindings.Given as goal

abbrev pub invariant-loop-x : goal.invariant-loop-x
invariant-loop-x l = l.copies.items ≡ take l.x-index l.bindings
