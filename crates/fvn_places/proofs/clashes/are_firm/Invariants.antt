-- The forms so far.
use Rattle.std.proofs.Common.{take, All}
use Rattle.fvn_places.specs.inner.Sums.{IsFirm}
use Rattle.fvn_places.proofs.clashes.are_firm.Given as goal

abbrev pub invariant-loop-u : goal.invariant-loop-u
invariant-loop-u l = All (IsFirm l.sig l.f) (take l.u-index l.us)
