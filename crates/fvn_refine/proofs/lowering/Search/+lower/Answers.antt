-- What each call of the search finds.
use Rattle.std.proofs.Common.{◌≡◌, ◌<◌, ◌≤◌, ◌+◌, ◌-◌, false, true, [], length, take, drop, get_or, Some, sym, ap, subst, ◌∙◌, inl, arith}
use Rattle.std.proofs.lemmas.List.{length-drop}
use Rattle.fvn_terms.specs.Signature.{axioms}
use Rattle.fvn_terms.specs.Equality.{IsAssociative}
use Rattle.fvn_forms.specs.Flat.{fapp, fpack}
use Rattle.fvn_flat.specs.Forms.{head_of, args_of}
use Rattle.fvn_flat.specs.Fits.{Fits}
use Rattle.fvn_flat.specs.Weight.{places_all}
use Rattle.fvn_flat.proofs.Smaller.{places_at}
use Rattle.fvn_flat.proofs.Instances.{each_at}
use Rattle.fvn_refine.specs.inner.Rows.{Row, IsRow, IsRowBelow, HasAbove}
use Rattle.fvn_refine.specs.inner.Found.{AreSummands, AreRows, Finds, IsUnder, AreUnder, IsResultUnder, IsSumUnder, IsPairUnder}
use Rattle.fvn_refine.proofs.Sorts.{variable_is, variable_or_head}
use Rattle.fvn_refine.proofs.Finding.{ForOne, rows_found, finds_for_none, finds_for_more, finds_for_all, finds_from_rows}
use Rattle.fvn_refine.proofs.Parts.{joined_is, joined_summands, from_sum, unjoined_is, unjoined_fits, from_over, args_places, narrow_start, narrow_found, narrow_next, front_none, front_next, front_all, unequal, over_all, over_fit, not_two, pair_found, all_but_last, sum_one, sum_several, front_summands, summand_fits, places_push, places_some}
use Rattle.fvn_refine.proofs.lowering.Search.+lower.Goals as goal

-- a term
pub lower-returns-in-Some : goal.lower-returns-in-Some
lower-returns-in-Some t c =
    let d = c.args.self.now.sig.now in
    let xs = c.args.self.now.vars.now in
    subst (λ u. Finds d xs (λ m. IsRowBelow d m c.args.way.now × IsUnder d xs u c.args.s m) c.in_ok-rows.rows.items)
    (sym (variable_is c.args.t.now c.in-Some.y (sym c.in-Some.ensures))) c.in_ok-rows.ensures

pub lower-returns-in-None : goal.lower-returns-in-None
lower-returns-in-None t c = absurd (variable_or_head c.args.t.now (sym c.in_default.ensures) (sym c.in-None.ensures))

pub lower-lower_sum-requires : goal.lower-lower_sum-requires
lower-lower_sum-requires t c =
    let d = c.args.self.now.sig.now in
    let f = c.in-Some-head.f in
    let exact = c.args-ts.ensures.exact in
    let sum = c.is_sum.ensures.yes c.if-is_sum.true in
    let some : 1 ≤ length (args_of c.args.t.now) = subst (λ l. 1 ≤ length l) exact sum.1 in
    let head : head_of c.args.t.now ≡ Some f = sym c.in-Some-head.ensures in
    let is = joined_is d c.args.self.now.vars.now c.recall_good.ensures c.args.way.now f c.args.s c.args.t.now c.requires.term head [] sum.0 some in (
      omega (arith, args_places f true c.args.t.now is, ap (λ l. places_all (fpack l)) exact),
      (
        c.requires.row,
        subst (AreSummands d f) (sym exact) (joined_summands d c.args.self.now.vars.now c.recall_good.ensures c.args.way.now f c.args.s c.args.t.now c.requires.term head [] sum.0 some),
      ),
    )

pub lower-returns-then-is_sum : goal.lower-returns-then-is_sum
lower-returns-then-is_sum t c =
    let d = c.args.self.now.sig.now in
    let xs = c.args.self.now.vars.now in
    let f = c.in-Some-head.f in
    let exact = c.args-ts.ensures.exact in
    let sum = c.is_sum.ensures.yes c.if-is_sum.true in
    let some : 1 ≤ length (args_of c.args.t.now) = subst (λ l. 1 ≤ length l) exact sum.1 in
    from_sum d xs c.recall_good.ensures c.args.way.now f c.args.s c.args.t.now c.requires.term (sym c.in-Some-head.ensures) c.in_ok-rows-2.rows.items sum.0 some
    (subst (λ l. Finds d xs (λ m. IsRowBelow d m c.args.way.now × IsSumUnder d xs f l c.args.s m) c.in_ok-rows-2.rows.items) exact c.in_ok-rows-2.ensures)

pub lower-lower_over-requires : goal.lower-lower_over-requires
lower-lower_over-requires t c =
    let d = c.args.self.now.sig.now in
    let f = c.in-Some-head.f in
    let exact = c.args-ts.ensures.exact in
    let none : IsAssociative (axioms d f) → args_of c.args.t.now ≡ [] = λ a. sym exact ∙ c.is_sum.ensures.no c.if-is_sum.false a in
    let head : head_of c.args.t.now ≡ Some f = sym c.in-Some-head.ensures in
    let is = unjoined_is d c.args.self.now.vars.now c.recall_good.ensures c.args.way.now f c.args.s c.args.t.now c.requires.term head [] none in (
      omega (arith, args_places f false c.args.t.now is, ap (λ l. places_all (fpack l)) exact),
      (
        c.requires.row,
        subst (λ l. Fits d (fapp f false (fpack l))) (sym exact) (unjoined_fits d c.args.self.now.vars.now c.recall_good.ensures c.args.way.now f c.args.s c.args.t.now c.requires.term head [] none),
      ),
    )

pub lower-returns : goal.lower-returns
lower-returns t c =
    let d = c.args.self.now.sig.now in
    let xs = c.args.self.now.vars.now in
    let f = c.in-Some-head.f in
    let exact = c.args-ts.ensures.exact in
    let none : IsAssociative (axioms d f) → args_of c.args.t.now ≡ [] = λ a. sym exact ∙ c.is_sum.ensures.no c.if-is_sum.false a in
    from_over d xs c.recall_good.ensures c.args.way.now f c.args.s c.args.t.now c.requires.term (sym c.in-Some-head.ensures) c.in_ok-rows-3.rows.items none
    (subst (λ l. Finds d xs (λ m. IsRowBelow d m c.args.way.now × IsResultUnder d xs f l c.args.s m) c.in_ok-rows-3.rows.items) exact c.in_ok-rows-3.ensures)

-- rows, one after another
pub lower_rows-lower-requires : goal.lower_rows-lower-requires
lower_rows-lower-requires t c = (
  omega arith,
  (
    subst (IsRow c.args.self.now.sig.now c.args.self.now.vars.now) (sym c.as_slice.ensures) (c.requires.rows c.row-item.result (c.loop-row.row-index, c.loop-row-test.true, sym c.row-item.is)),
    c.requires.term,
  ),
)

pub lower_rows-loop-row-init : goal.lower_rows-loop-row-init
lower_rows-loop-row-init t c =
    let d = c.args.self.now.sig.now in
    let xs = c.args.self.now.vars.now in
    let P : Row → Row → Type 0 = λ r m. IsRowBelow d m r × IsUnder d xs c.args.t.now c.args.s m in
    subst (Finds d xs (ForOne d xs P c.args.rows.now (take 0 c.args.rows.now))) (sym c.new-all.ensures.items) (finds_for_none d xs P c.args.rows.now)

pub lower_rows-loop-row-preserved : goal.lower_rows-loop-row-preserved
lower_rows-loop-row-preserved t c =
    let d = c.args.self.now.sig.now in
    let xs = c.args.self.now.vars.now in
    let P : Row → Row → Type 0 = λ r m. IsRowBelow d m r × IsUnder d xs c.args.t.now c.args.s m in
    finds_for_more d xs P c.args.rows.now c.loop-row.row-index c.row-item.result c.loop-row-test.true c.row-item.is c.loop-row.all.items c.in_ok-more.more.items c.in_ok-all.all.items
    c.loop-row.invariant (subst (λ r. Finds d xs (P r) c.in_ok-more.more.items) c.as_slice.ensures c.in_ok-more.ensures) c.in_ok-all.ensures

pub lower_rows-returns : goal.lower_rows-returns
lower_rows-returns t c =
    let d = c.args.self.now.sig.now in
    let xs = c.args.self.now.vars.now in
    let P : Row → Row → Type 0 = λ r m. IsRowBelow d m r × IsUnder d xs c.args.t.now c.args.s m in
    finds_from_rows d xs (IsUnder d xs c.args.t.now c.args.s) c.args.rows.now c.loop-row.all.items
    (finds_for_all d xs P c.args.rows.now c.loop-row.row-index c.loop-row-test.false c.loop-row.all.items c.loop-row.invariant)

-- arguments, but for the largest
pub narrowed-returns-then-large-ts : goal.narrowed-returns-then-large-ts
narrowed-returns-then-large-ts t c =
    let d = c.args.self.now.sig.now in
    let xs = c.args.self.now.vars.now in
    narrow_start d xs c.args.way.now (AreUnder d xs c.args.ts.now c.args.args.now) c.requires.row c.in_ok-rows.rows.items c.in_ok-rows.ensures

pub narrowed-loop-i-init : goal.narrowed-loop-i-init
narrowed-loop-i-init t c =
    let d = c.args.self.now.sig.now in
    let xs = c.args.self.now.vars.now in
    narrow_start d xs c.args.way.now (AreUnder d xs c.args.ts.now c.args.args.now) c.requires.row c.in_ok-rows.rows.items c.in_ok-rows.ensures

pub narrowed-bounds-args-i : goal.narrowed-bounds-args-i
narrowed-bounds-args-i t c = omega (arith, c.requires.long, c.loop-i-test.true)

pub narrowed-lower_rows-requires : goal.narrowed-lower_rows-requires
narrowed-lower_rows-requires t c =
    let d = c.args.self.now.sig.now in
    let xs = c.args.self.now.vars.now in (
      omega (arith, places_at c.args.ts.now c.loop-i.i c.index-ts-i.result c.loop-i-test.true c.index-ts-i.is),
      (
        subst (AreRows d xs) (sym c.as_slice.ensures.value) (λ r k. (c.loop-i.invariant.found r k).0),
        each_at (Fits d) c.args.ts.now c.requires.terms c.loop-i.i c.index-ts-i.result c.loop-i-test.true c.index-ts-i.is,
      ),
    )

pub narrowed-loop-i-preserved : goal.narrowed-loop-i-preserved
narrowed-loop-i-preserved t c =
    narrow_next c.args.self.now.sig.now c.args.self.now.vars.now c.args.way.now c.args.ts.now c.args.args.now c.loop-i.i c.index-ts-i.result _
    c.loop-i-test.true c.index-ts-i.is c.loop-i.rows.items c.as_slice.result.now c.in_ok-rows-2.rows.items
    c.as_slice.ensures.value c.loop-i.invariant c.in_ok-rows-2.ensures

-- arguments, one after another
pub lower_all-returns-then-ts-args : goal.lower_all-returns-then-ts-args
lower_all-returns-then-ts-args t c =
    let d = c.args.self.now.sig.now in
    let xs = c.args.self.now.vars.now in
    subst (Finds d xs (λ m. IsRowBelow d m c.args.way.now × AreUnder d xs c.args.ts.now c.args.args.now m)) (sym c.new.ensures.items)
    (unequal d xs c.recall_good.ensures c.args.way.now c.args.ts.now c.args.args.now c.if-ts-args.true)

pub lower_all-loop-i-init : goal.lower_all-loop-i-init
lower_all-loop-i-init t c =
    front_none c.args.self.now.sig.now c.args.self.now.vars.now c.recall_good.ensures c.args.way.now c.args.ts.now c.args.args.now
    c.requires.terms c.if-ts-args.false c.in_ok-rows.rows.items c.in_ok-rows.ensures

pub lower_all-bounds-args-i : goal.lower_all-bounds-args-i
lower_all-bounds-args-i t c = omega (arith, c.if-ts-args.false, c.loop-i-test.true)

pub lower_all-lower_rows-requires : goal.lower_all-lower_rows-requires
lower_all-lower_rows-requires t c =
    let d = c.args.self.now.sig.now in
    let xs = c.args.self.now.vars.now in (
      omega (arith, places_at c.args.ts.now c.loop-i.i c.index-ts-i.result c.loop-i-test.true c.index-ts-i.is),
      (
        subst (AreRows d xs) (sym c.as_slice.ensures.value) (λ r k. (c.loop-i.invariant.found r k).0),
        each_at (Fits d) c.args.ts.now c.requires.terms c.loop-i.i c.index-ts-i.result c.loop-i-test.true c.index-ts-i.is,
      ),
    )

pub lower_all-loop-i-preserved : goal.lower_all-loop-i-preserved
lower_all-loop-i-preserved t c =
    front_next c.args.self.now.sig.now c.args.self.now.vars.now c.recall_good.ensures c.args.way.now c.args.ts.now c.args.args.now c.loop-i.i c.index-ts-i.result _
    c.loop-i-test.true (omega (arith, c.if-ts-args.false, c.loop-i-test.true)) c.index-ts-i.is c.loop-i.rows.items c.as_slice.result.now c.in_ok-rows-2.rows.items
    c.as_slice.ensures.value c.loop-i.invariant c.in_ok-rows-2.ensures

pub lower_all-returns : goal.lower_all-returns
lower_all-returns t c =
    front_all c.args.self.now.sig.now c.args.self.now.vars.now c.recall_good.ensures c.args.way.now c.args.ts.now c.args.args.now
    (drop c.loop-i.i c.args.ts.now) (drop c.loop-i.i c.args.args.now) c.loop-i.rows.items c.loop-i.invariant
    (inl (omega (arith, length-drop c.loop-i.i c.args.ts.now, c.loop-i-test.false)))

-- an operator over arguments
pub lower_over-loop-args-init : goal.lower_over-loop-args-init
lower_over-loop-args-init t c =
    let d = c.args.self.now.sig.now in
    let xs = c.args.self.now.vars.now in
    let P : Row → Row → Type 0 = λ args m. IsRowBelow d m c.args.way.now × AreUnder d xs c.args.ts.now args m in
    subst (Finds d xs (ForOne d xs P c.as_slice-args-items.result.now (take 0 c.as_slice-args-items.result.now))) (sym c.new-all.ensures.items) (finds_for_none d xs P c.as_slice-args-items.result.now)

pub lower_over-lower_all-requires : goal.lower_over-lower_all-requires
lower_over-lower_all-requires t c = (omega arith, (c.requires.row, over_fit c.args.self.now.sig.now c.recall_good.ensures c.args.f c.args.ts.now c.requires.term))

pub lower_over-loop-args-preserved : goal.lower_over-loop-args-preserved
lower_over-loop-args-preserved t c =
    let d = c.args.self.now.sig.now in
    let xs = c.args.self.now.vars.now in
    let P : Row → Row → Type 0 = λ args m. IsRowBelow d m c.args.way.now × AreUnder d xs c.args.ts.now args m in
    finds_for_more d xs P c.as_slice-args-items.result.now c.loop-args.args-index c.args-item.result c.loop-args-test.true c.args-item.is c.loop-args.all.items c.in_ok-more.more.items c.in_ok-all.all.items
    c.loop-args.invariant (subst (λ r. Finds d xs (P r) c.in_ok-more.more.items) c.as_slice.ensures c.in_ok-more.ensures) c.in_ok-all.ensures

pub lower_over-returns : goal.lower_over-returns
lower_over-returns t c =
    let d = c.args.self.now.sig.now in
    let xs = c.args.self.now.vars.now in
    let P : Row → Row → Type 0 = λ args m. IsRowBelow d m c.args.way.now × AreUnder d xs c.args.ts.now args m in
    over_all d xs c.recall_good.ensures c.args.way.now c.args.f c.args.s c.args.ts.now c.requires.term c.in_ok-lists.lists.items c.in_ok-lists.ensures c.loop-args.all.items
    (subst (λ l. Finds d xs (ForOne d xs P l l) c.loop-args.all.items) c.as_slice-args-items.ensures.value
    (finds_for_all d xs P c.as_slice-args-items.result.now c.loop-args.args-index c.loop-args-test.false c.loop-args.all.items c.loop-args.invariant))

-- a sum
pub lower_sum-overflow_sub-last : goal.lower_sum-overflow_sub-last
lower_sum-overflow_sub-last t c = c.requires.sum.some

pub lower_sum-bounds-ts-last : goal.lower_sum-bounds-ts-last
lower_sum-bounds-ts-last t c = omega (arith, c.requires.sum.some)

pub lower_sum-lower-requires : goal.lower_sum-lower-requires
lower_sum-lower-requires t c =
    let some : 1 ≤ length c.args.ts.now = c.requires.sum.some in
    let within : length c.args.ts.now - 1 < length c.args.ts.now = omega arith in (
      omega (arith, places_at c.args.ts.now (length c.args.ts.now - 1) c.index-ts-last.result within c.index-ts-last.is),
      (c.requires.row, summand_fits c.args.self.now.sig.now c.args.f c.args.ts.now c.requires.sum (length c.args.ts.now - 1) c.index-ts-last.result within c.index-ts-last.is),
    )

pub lower_sum-returns-then-last-eq0 : goal.lower_sum-returns-then-last-eq0
lower_sum-returns-then-last-eq0 t c =
    let some : 1 ≤ length c.args.ts.now = c.requires.sum.some in
    let zero : length c.args.ts.now - 1 ≡ 0 = c.if-last-eq0.true in
    sum_one c.args.self.now.sig.now c.args.self.now.vars.now c.args.way.now c.args.f c.args.s c.args.ts.now c.index-ts-last.result (omega arith)
    (subst (λ n. c.index-ts-last.result ≡ get_or c.args.ts.now n c.index-ts-last.result) zero c.index-ts-last.is) c.in_ok-rows.rows.items c.in_ok-rows.ensures

pub lower_sum-loop-args-init : goal.lower_sum-loop-args-init
lower_sum-loop-args-init t c =
    let d = c.args.self.now.sig.now in
    let xs = c.args.self.now.vars.now in
    let front = take (length c.args.ts.now - 1) c.args.ts.now in
    let P : Row → Row → Type 0 = λ args m. IsRowBelow d m c.args.way.now × IsPairUnder d xs c.args.f front c.index-ts-last.result args m in
    subst (Finds d xs (ForOne d xs P c.as_slice-args-items.result.now (take 0 c.as_slice-args-items.result.now))) (sym c.new-all.ensures.items) (finds_for_none d xs P c.as_slice-args-items.result.now)

pub lower_sum-lower_pair-requires : goal.lower_sum-lower_pair-requires
lower_sum-lower_pair-requires t c =
    let d = c.args.self.now.sig.now in
    let ts = c.args.ts.now in
    let n = length ts - 1 in
    let last = c.index-ts-last.result in
    let some : 1 ≤ length ts = c.requires.sum.some in
    let long : length ts ≡ n + 1 = omega arith in
    let within : n < length ts = omega arith in
    let several : 1 ≤ n = omega (arith, c.if-last-eq0.false) in (
      omega (arith, ap (λ l. places_all (fpack l)) (all_but_last ts n last long c.index-ts-last.is), places_push (take n ts) last),
      (
        c.requires.row,
        (front_summands d c.args.f ts c.requires.sum n several within, summand_fits d c.args.f ts c.requires.sum n last within c.index-ts-last.is),
      ),
    )

pub lower_sum-loop-args-preserved : goal.lower_sum-loop-args-preserved
lower_sum-loop-args-preserved t c =
    let d = c.args.self.now.sig.now in
    let xs = c.args.self.now.vars.now in
    let front = take (length c.args.ts.now - 1) c.args.ts.now in
    let P : Row → Row → Type 0 = λ args m. IsRowBelow d m c.args.way.now × IsPairUnder d xs c.args.f front c.index-ts-last.result args m in
    finds_for_more d xs P c.as_slice-args-items.result.now c.loop-args.args-index c.args-item.result c.loop-args-test.true c.args-item.is c.loop-args.all.items c.in_ok-more.more.items c.in_ok-all.all.items
    c.loop-args.invariant (subst (λ r. Finds d xs (P r) c.in_ok-more.more.items) c.as_slice.ensures c.in_ok-more.ensures) c.in_ok-all.ensures

pub lower_sum-returns : goal.lower_sum-returns
lower_sum-returns t c =
    let d = c.args.self.now.sig.now in
    let xs = c.args.self.now.vars.now in
    let ts = c.args.ts.now in
    let n = length ts - 1 in
    let last = c.index-ts-last.result in
    let some : 1 ≤ length ts = c.requires.sum.some in
    let long : length ts ≡ n + 1 = omega arith in
    let several : 1 ≤ n = omega (arith, c.if-last-eq0.false) in
    let P : Row → Row → Type 0 = λ args m. IsRowBelow d m c.args.way.now × IsPairUnder d xs c.args.f (take n ts) last args m in
    sum_several d xs c.recall_good.ensures c.args.way.now c.args.f c.args.s ts n last c.requires.sum long several c.index-ts-last.is c.in_ok-lists.lists.items c.in_ok-lists.ensures c.loop-args.all.items
    (subst (λ l. Finds d xs (ForOne d xs P l l) c.loop-args.all.items) c.as_slice-args-items.ensures.value
    (finds_for_all d xs P c.as_slice-args-items.result.now c.loop-args.args-index c.loop-args-test.false c.loop-args.all.items c.loop-args.invariant))

-- the first summands and the last
pub lower_pair-returns-in-None : goal.lower_pair-returns-in-None
lower_pair-returns-in-None t c =
    let d = c.args.self.now.sig.now in
    let xs = c.args.self.now.vars.now in
    subst (Finds d xs (λ m. IsRowBelow d m c.args.way.now × IsPairUnder d xs c.args.f c.args.front.now c.args.last.now c.args.args.now m)) (sym c.new.ensures.items)
    (not_two d xs c.args.way.now c.args.f c.args.front.now c.args.last.now c.args.args.now c.in-None.ensures)

pub lower_pair-narrowed_sum-requires : goal.lower_pair-narrowed_sum-requires
lower_pair-narrowed_sum-requires t c = (omega (arith, places_some c.args.last.now), (c.requires.row, c.requires.sum))

pub lower_pair-lower_rows-requires : goal.lower_pair-lower_rows-requires
lower_pair-lower_rows-requires t c =
    let d = c.args.self.now.sig.now in
    let xs = c.args.self.now.vars.now in (
      omega arith,
      (subst (AreRows d xs) (sym c.as_slice.ensures.value) (λ r k. (c.in_ok-start.ensures.found r k).0), c.requires.term),
    )

pub lower_pair-lower_sum_rows-requires : goal.lower_pair-lower_sum_rows-requires
lower_pair-lower_sum_rows-requires t c =
    let d = c.args.self.now.sig.now in
    let xs = c.args.self.now.vars.now in (
      omega (arith, places_some c.args.last.now),
      (
        subst (AreRows d xs) (sym c.as_slice-2.ensures.value) (rows_found d xs (λ m. HasAbove d c.as_slice.result.now m × IsUnder d xs c.args.last.now c.in-Some.pair.1 m) c.in_ok-rows.rows.items c.in_ok-rows.ensures),
        c.requires.sum,
      ),
    )

pub lower_pair-returns : goal.lower_pair-returns
lower_pair-returns t c =
    let d = c.args.self.now.sig.now in
    let xs = c.args.self.now.vars.now in
    pair_found d xs c.recall_good.ensures c.args.way.now c.args.f c.args.front.now c.args.last.now c.requires.term c.in-Some.pair.0 c.in-Some.pair.1 c.args.args.now c.in-Some.ensures
    c.in_ok-start.start.items c.in_ok-rows.rows.items c.in_ok-all.all.items c.in_ok-start.ensures
    (subst (λ l. Finds d xs (λ m. HasAbove d l m × IsUnder d xs c.args.last.now c.in-Some.pair.1 m) c.in_ok-rows.rows.items) c.as_slice.ensures.value c.in_ok-rows.ensures)
    (subst (λ l. Finds d xs (λ m. HasAbove d l m × IsSumUnder d xs c.args.f c.args.front.now c.in-Some.pair.0 m) c.in_ok-all.all.items) c.as_slice-2.ensures.value c.in_ok-all.ensures)

-- the first summands, before a large one
pub narrowed_sum-returns-then-not-large : goal.narrowed_sum-returns-then-not-large
narrowed_sum-returns-then-not-large t c =
    let d = c.args.self.now.sig.now in
    let xs = c.args.self.now.vars.now in
    narrow_start d xs c.args.way.now (IsSumUnder d xs c.args.f c.args.ts.now c.args.s) c.requires.row c.in_ok-rows.rows.items c.in_ok-rows.ensures

pub narrowed_sum-lower_sum-requires : goal.narrowed_sum-lower_sum-requires
narrowed_sum-lower_sum-requires t c = (omega arith, (c.requires.row, c.requires.sum))

pub narrowed_sum-returns : goal.narrowed_sum-returns
narrowed_sum-returns t c =
    let d = c.args.self.now.sig.now in
    let xs = c.args.self.now.vars.now in
    narrow_found d xs c.args.way.now (IsSumUnder d xs c.args.f c.args.ts.now c.args.s) c.in_ok-rows-2.rows.items c.in_ok-rows-2.ensures

-- rows for a sum, one after another
pub lower_sum_rows-lower_sum-requires : goal.lower_sum_rows-lower_sum-requires
lower_sum_rows-lower_sum-requires t c = (
  omega arith,
  (
    subst (IsRow c.args.self.now.sig.now c.args.self.now.vars.now) (sym c.as_slice.ensures) (c.requires.rows c.row-item.result (c.loop-row.row-index, c.loop-row-test.true, sym c.row-item.is)),
    c.requires.sum,
  ),
)

pub lower_sum_rows-loop-row-init : goal.lower_sum_rows-loop-row-init
lower_sum_rows-loop-row-init t c =
    let d = c.args.self.now.sig.now in
    let xs = c.args.self.now.vars.now in
    let P : Row → Row → Type 0 = λ r m. IsRowBelow d m r × IsSumUnder d xs c.args.f c.args.ts.now c.args.s m in
    subst (Finds d xs (ForOne d xs P c.args.rows.now (take 0 c.args.rows.now))) (sym c.new-all.ensures.items) (finds_for_none d xs P c.args.rows.now)

pub lower_sum_rows-loop-row-preserved : goal.lower_sum_rows-loop-row-preserved
lower_sum_rows-loop-row-preserved t c =
    let d = c.args.self.now.sig.now in
    let xs = c.args.self.now.vars.now in
    let P : Row → Row → Type 0 = λ r m. IsRowBelow d m r × IsSumUnder d xs c.args.f c.args.ts.now c.args.s m in
    finds_for_more d xs P c.args.rows.now c.loop-row.row-index c.row-item.result c.loop-row-test.true c.row-item.is c.loop-row.all.items c.in_ok-more.more.items c.in_ok-all.all.items
    c.loop-row.invariant (subst (λ r. Finds d xs (P r) c.in_ok-more.more.items) c.as_slice.ensures c.in_ok-more.ensures) c.in_ok-all.ensures

pub lower_sum_rows-returns : goal.lower_sum_rows-returns
lower_sum_rows-returns t c =
    let d = c.args.self.now.sig.now in
    let xs = c.args.self.now.vars.now in
    let P : Row → Row → Type 0 = λ r m. IsRowBelow d m r × IsSumUnder d xs c.args.f c.args.ts.now c.args.s m in
    finds_from_rows d xs (IsSumUnder d xs c.args.f c.args.ts.now c.args.s) c.args.rows.now c.loop-row.all.items
    (finds_for_all d xs P c.args.rows.now c.loop-row.row-index c.loop-row-test.false c.loop-row.all.items c.loop-row.invariant)
