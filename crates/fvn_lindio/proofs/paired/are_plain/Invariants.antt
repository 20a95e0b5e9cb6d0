-- The points so far are plain.
use Rattle.std.proofs.Common.{take}
use Rattle.std.specs.List.{All}
use Rattle.fvn_lindio.specs.inner.Paired.{IsPlain}
use Rattle.fvn_lindio.proofs.paired.are_plain.Given as goal

abbrev pub invariant-loop-p : goal.invariant-loop-p
invariant-loop-p l = All (IsPlain l.sign) (take l.p-index l.points)
