-- What is left of 1, and of the columns, tells what the vector has in all of them.
use Rattle.std.proofs.Common.{◌≡◌, ◌+◌, drop}
use Rattle.fvn_acunify.specs.inner.Prefix.{share}
use Rattle.fvn_acunify.proofs.prefix.uses_two.Given as goal

abbrev pub invariant-loop-c : goal.invariant-loop-c
invariant-loop-c l = share l.constants l.parts + l.left ≡ 1 + share (drop l.c-index l.constants) l.parts
