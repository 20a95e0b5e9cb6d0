-- The operators so far are aside.
use Rattle.std.proofs.Common.{All, take}
use Rattle.fvn_combine_inferring.specs.inner.Labels.{IsAside}
use Rattle.fvn_combine_inferring.proofs.labelling.are_aside.Given as goal

abbrev pub invariant-loop-i : goal.invariant-loop-i
invariant-loop-i l = All (IsAside l.sig l.k l.p) (take l.i l.sums)
