-- Each column so far can be filled.
use Rattle.std.proofs.Common.{All, take}
use Rattle.fvn_acunify.specs.inner.Prefix.{CanBeFilled}
use Rattle.fvn_acunify.proofs.prefix.are_reached.Given as goal

abbrev pub invariant-loop-j : goal.invariant-loop-j
invariant-loop-j l = All (CanBeFilled l.changed l.constants l.lower l.sums) (take l.j-index l.at_least_one)
