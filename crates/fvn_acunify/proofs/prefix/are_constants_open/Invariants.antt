-- Each constant column so far can be 1.
use Rattle.std.proofs.Common.{All, take}
use Rattle.fvn_acunify.specs.inner.Prefix.{CanBeOne}
use Rattle.fvn_acunify.proofs.prefix.are_constants_open.Given as goal

abbrev pub invariant-loop-c : goal.invariant-loop-c
invariant-loop-c l = All (CanBeOne l.changed l.constants l.lower l.sums) (take l.c-index l.constants)
