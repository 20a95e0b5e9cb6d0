-- None so far is below the vector.
use Rattle.std.proofs.Common.{take}
use Rattle.fvn_lindio.specs.inner.Least.{HasOther}
use Rattle.fvn_lindio.proofs.least.has_other_below.Given as goal

abbrev pub invariant-loop-p : goal.invariant-loop-p
invariant-loop-p l = HasOther (take l.p-index l.points) l.parts → ⊥
