-- The measures of the recursion, and what was passed over.
use Rattle.std.proofs.Common.{◌+◌, ◌*◌, take, All}
use Rattle.fvn_forms.specs.Flat.{fpack}
use Rattle.fvn_flat.specs.Weight.{places, places_all}
use Rattle.fvn_places.specs.Clashes.{NeverMeet}
use Rattle.fvn_places.proofs.clashes.+clash.Given as goal

abbrev pub decreases-clash : goal.decreases-clash
decreases-clash l = 8 * (places l.t.now + places l.u.now)

abbrev pub decreases-some_clash : goal.decreases-some_clash
decreases-some_clash l = 8 * (places_all (fpack l.ts.now) + places_all (fpack l.us.now)) + 1

abbrev pub decreases-is_unmet : goal.decreases-is_unmet
decreases-is_unmet l = 8 * (places l.t.now + places_all (fpack l.us.now)) + 2

abbrev pub decreases-some_unmet : goal.decreases-some_unmet
decreases-some_unmet l = 8 * (places_all (fpack l.ts.now) + places_all (fpack l.us.now)) + 3

abbrev pub decreases-exceeds : goal.decreases-exceeds
decreases-exceeds l = 8 * (places_all (fpack l.ts.now) + places_all (fpack l.us.now)) + 4

abbrev pub decreases-are_twice : goal.decreases-are_twice
decreases-are_twice l = 8 * (places_all (fpack l.ts.now) + places_all (fpack l.us.now)) + 4

abbrev pub decreases-sums_clash : goal.decreases-sums_clash
decreases-sums_clash l = 8 * (places_all (fpack l.ts.now) + places_all (fpack l.us.now)) + 5

abbrev pub invariant-is_unmet-loop-u : goal.invariant-is_unmet-loop-u
invariant-is_unmet-loop-u l = All (NeverMeet l.sig l.t) (take l.u-index l.us)
