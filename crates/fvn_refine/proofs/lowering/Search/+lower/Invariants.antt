-- The measures of the search, and what was found so far.
use Rattle.std.proofs.Common.{◌+◌, ◌*◌, take, drop}
use Rattle.fvn_forms.specs.Flat.{fpack}
use Rattle.fvn_flat.specs.Weight.{places, places_all}
use Rattle.fvn_refine.specs.inner.Rows.{IsRowBelow}
use Rattle.fvn_refine.specs.inner.Found.{Finds, Narrows, IsUnder, AreUnder, IsSumUnder, IsPairUnder}
use Rattle.fvn_refine.proofs.Finding.{ForOne}
use Rattle.fvn_refine.proofs.Parts.{FindsFront}
use Rattle.fvn_refine.proofs.lowering.Search.+lower.Given as goal

-- five times the places, and the place in a round of calls that take nothing apart
abbrev pub decreases-lower : goal.decreases-lower
decreases-lower l = 5 * places l.t.now

abbrev pub decreases-lower_rows : goal.decreases-lower_rows
decreases-lower_rows l = 5 * places l.t.now + 1

abbrev pub decreases-lower_all : goal.decreases-lower_all
decreases-lower_all l = 5 * places_all (fpack l.ts.now) + 3

abbrev pub decreases-narrowed : goal.decreases-narrowed
decreases-narrowed l = 5 * places_all (fpack l.ts.now) + 2

abbrev pub decreases-lower_over : goal.decreases-lower_over
decreases-lower_over l = 5 * places_all (fpack l.ts.now) + 4

abbrev pub decreases-lower_sum : goal.decreases-lower_sum
decreases-lower_sum l = 5 * places_all (fpack l.ts.now) + 3

abbrev pub decreases-narrowed_sum : goal.decreases-narrowed_sum
decreases-narrowed_sum l = 5 * places_all (fpack l.ts.now) + 4

abbrev pub decreases-lower_pair : goal.decreases-lower_pair
decreases-lower_pair l = 5 * (places_all (fpack l.front.now) + places l.last.now) + 2

abbrev pub decreases-lower_sum_rows : goal.decreases-lower_sum_rows
decreases-lower_sum_rows l = 5 * places_all (fpack l.ts.now) + 4

abbrev pub invariant-lower_rows-loop-row : goal.invariant-lower_rows-loop-row
invariant-lower_rows-loop-row l =
    let d = l.self.sig.now in
    let xs = l.self.vars.now in
    Finds d xs (ForOne d xs (λ r m. IsRowBelow d m r × IsUnder d xs l.t l.s m) l.rows (take l.row-index l.rows)) l.all.items

abbrev pub invariant-lower_sum_rows-loop-row : goal.invariant-lower_sum_rows-loop-row
invariant-lower_sum_rows-loop-row l =
    let d = l.self.sig.now in
    let xs = l.self.vars.now in
    Finds d xs (ForOne d xs (λ r m. IsRowBelow d m r × IsSumUnder d xs l.f l.ts l.s m) l.rows (take l.row-index l.rows)) l.all.items

abbrev pub invariant-lower_over-loop-args : goal.invariant-lower_over-loop-args
invariant-lower_over-loop-args l =
    let d = l.self.sig.now in
    let xs = l.self.vars.now in
    Finds d xs (ForOne d xs (λ args m. IsRowBelow d m l.way × AreUnder d xs l.ts args m) l.args-items (take l.args-index l.args-items)) l.all.items

abbrev pub invariant-lower_sum-loop-args : goal.invariant-lower_sum-loop-args
invariant-lower_sum-loop-args l =
    let d = l.self.sig.now in
    let xs = l.self.vars.now in
    Finds d xs (ForOne d xs (λ args m. IsRowBelow d m l.way × IsPairUnder d xs l.f l.front l.end args m) l.args-items (take l.args-index l.args-items)) l.all.items

abbrev pub invariant-lower_all-loop-i : goal.invariant-lower_all-loop-i
invariant-lower_all-loop-i l = FindsFront l.self.sig.now l.self.vars.now l.way l.ts l.args (drop l.i l.ts) (drop l.i l.args) l.rows.items

abbrev pub invariant-narrowed-loop-i : goal.invariant-narrowed-loop-i
invariant-narrowed-loop-i l = Narrows l.self.sig.now l.self.vars.now l.way (AreUnder l.self.sig.now l.self.vars.now l.ts l.args) l.rows.items
