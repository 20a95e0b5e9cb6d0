-- The terms so far are no instances, and the measures of the recursion.
use Rattle.std.proofs.Common.{◌+◌, ◌*◌, take, All}
use Rattle.fvn_forms.specs.Flat.{fpack}
use Rattle.fvn_flat.specs.Weight.{places, places_all}
use Rattle.fvn_match.specs.inner.Heads.{IsLost}
use Rattle.fvn_match.proofs.heads.+keep.Given as goal

abbrev pub decreases-may_keep : goal.decreases-may_keep
decreases-may_keep l = 2 * places l.t.now

abbrev pub decreases-may_stand : goal.decreases-may_stand
decreases-may_stand l = 2 * places_all (fpack l.ts.now) + 1

abbrev pub invariant-may_stand-loop-u : goal.invariant-may_stand-loop-u
invariant-may_stand-loop-u l = All (IsLost l.sig l.q) (take l.u-index l.ts)
