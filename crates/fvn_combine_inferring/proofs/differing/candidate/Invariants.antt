-- The classes so far differ from that of node k.
use Rattle.std.proofs.Common.{All, take}
use Rattle.fvn_combine_inferring.specs.inner.Sizes.{IsNoSummand}
use Rattle.fvn_combine_inferring.proofs.differing.candidate.Given as goal

abbrev pub invariant-loop-l : goal.invariant-loop-l
invariant-loop-l l = All (IsNoSummand l.sig l.table l.state l.known.sorted l.addition.operator l.k) (take l.l-index l.list)
