-- all so far are the first
use Rattle.std.proofs.Common.{◌≡◌, replicate, take}
use Rattle.fvn_match.specs.inner.Summands.{references}
use Rattle.fvn_match.proofs.summands.alike.Given as goal

abbrev pub invariant-loop-i : goal.invariant-loop-i
invariant-loop-i l = take l.i (references l.patterns) ≡ replicate l.i l.first
