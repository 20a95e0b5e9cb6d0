-- The measures, and the row so far.
use Rattle.std.proofs.Common.{◌+◌, ◌*◌, drop, [], ◌∷◌}
use Rattle.fvn_forms.specs.Flat.{fpack}
use Rattle.fvn_flat.specs.Weight.{places, places_all}
use Rattle.fvn_refine.proofs.Parts.{FindsFront}
use Rattle.fvn_refine.proofs.direct.+down.Given as goal

-- three times the places, and the place in a round of calls that take nothing apart
abbrev pub decreases-down : goal.decreases-down
decreases-down l = 3 * places l.t.now

abbrev pub decreases-down_all : goal.decreases-down_all
decreases-down_all l = 3 * places_all (fpack l.ts.now) + 1

abbrev pub decreases-down_over : goal.decreases-down_over
decreases-down_over l = 3 * places_all (fpack l.ts.now) + 2

abbrev pub decreases-down_sum : goal.decreases-down_sum
decreases-down_sum l = 3 * places_all (fpack l.ts.now) + 1

abbrev pub invariant-down_all-loop-i : goal.invariant-down_all-loop-i
invariant-down_all-loop-i l = FindsFront l.search.sig.now l.search.vars.now l.initial.lower.items l.ts l.args (drop l.i l.ts) (drop l.i l.args) (l.lower.items ∷ [])
