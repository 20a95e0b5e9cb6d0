-- The classes so far are passed.
use Rattle.std.proofs.Common.{All, take}
use Rattle.fvn_combine_inferring.specs.inner.Sizes.{IsNoSummand}
use Rattle.fvn_combine_inferring.specs.inner.Bounds.{IsItOr}
use Rattle.fvn_combine_inferring.proofs.differing.is_only.Given as goal

abbrev pub invariant-loop-x : goal.invariant-loop-x
invariant-loop-x l = All (IsItOr (IsNoSummand l.sig l.table l.state l.known.sorted l.addition.operator l.k) l.l) (take l.x-index l.list)
