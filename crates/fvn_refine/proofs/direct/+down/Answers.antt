-- What each call finds: the greatest row.
use Rattle.std.proofs.Common.{◌≡◌, ◌<◌, ◌≤◌, ◌+◌, ◌-◌, true, false, [], ◌∷◌, length, take, drop, get_or, refl, Some, sym, ap, subst, ◌∙◌, inl, arith}
use Rattle.std.specs.Prelude.{IfSome}
use Rattle.std.proofs.lemmas.Option.{slice_get_within}
use Rattle.std.proofs.lemmas.List.{length-drop}
use Rattle.fvn_base.proofs.Membership.{contains_here}
use Rattle.fvn_terms.specs.Signature.{axioms}
use Rattle.fvn_terms.specs.Equality.{IsAssociative}
use Rattle.fvn_forms.specs.Flat.{fapp, fpack}
use Rattle.fvn_forms.specs.Ranks.{ranks_of}
use Rattle.fvn_flat.specs.Forms.{head_of, args_of}
use Rattle.fvn_flat.specs.Fits.{Fits}
use Rattle.fvn_flat.specs.Weight.{places_all}
use Rattle.fvn_flat.proofs.Smaller.{places_at}
use Rattle.fvn_flat.proofs.Instances.{each_at}
use Rattle.fvn_refine.specs.inner.Rows.{IsRowBelow}
use Rattle.fvn_refine.specs.inner.Found.{AreSummands, Finds, IsUnder, AreUnder, IsResultUnder, IsSumUnder, IsPairUnder}
use Rattle.fvn_refine.specs.inner.Greatest.{IsGreatest}
use Rattle.fvn_refine.proofs.Sorts.{variable_is}
use Rattle.fvn_refine.proofs.Parts.{joined_is, joined_summands, from_sum, unjoined_is, unjoined_fits, from_over, args_places, narrow_start, front_none, front_next, front_all, over_all, over_fit, pair_found, all_but_last, sum_one, sum_several, front_summands, summand_fits, places_push, places_some}
use Rattle.fvn_refine.proofs.Greatest.{if_some, greatest_found, greatest_above, found_greatest, one_list, only_arguments}
use Rattle.fvn_refine.proofs.direct.+down.Goals as goal

-- a term
pub down-returns-in-Some : goal.down-returns-in-Some
down-returns-in-Some t c =
    let d = c.args.search.now.sig.now in
    let xs = c.args.search.now.vars.now in
    subst (λ u. IfSome c.lower_place-lower.result (λ r. IsGreatest d xs c.args.row.items (IsUnder d xs u c.args.s) r.items))
    (sym (variable_is c.args.t.now c.in-Some.y (sym c.in-Some.ensures))) c.lower_place-lower.ensures

pub down-down_sum-lower-requires : goal.down-down_sum-lower-requires
down-down_sum-lower-requires t c =
    let d = c.args.search.now.sig.now in
    let f = c.in-Some-head.f in
    let exact = c.args-ts.ensures.exact in
    let sum = c.is_sum.ensures.yes c.if-is_sum.true in
    let some : 1 ≤ length (args_of c.args.t.now) = subst (λ l. 1 ≤ length l) exact sum.1 in
    let head : head_of c.args.t.now ≡ Some f = sym c.in-Some-head.ensures in
    let is = joined_is d c.args.search.now.vars.now c.recall_good.ensures c.args.row.items f c.args.s c.args.t.now c.requires.term head [] sum.0 some in (
      omega (arith, args_places f true c.args.t.now is, ap (λ l. places_all (fpack l)) exact),
      (
        c.requires.row,
        subst (AreSummands d f) (sym exact) (joined_summands d c.args.search.now.vars.now c.recall_good.ensures c.args.row.items f c.args.s c.args.t.now c.requires.term head [] sum.0 some),
      ),
    )

pub down-returns-then-is_sum : goal.down-returns-then-is_sum
down-returns-then-is_sum t c =
    let d = c.args.search.now.sig.now in
    let xs = c.args.search.now.vars.now in
    let f = c.in-Some-head.f in
    let w = c.args.row.items in
    let ts = c.args-ts.result.now in
    let exact = c.args-ts.ensures.exact in
    let sum = c.is_sum.ensures.yes c.if-is_sum.true in
    let some : 1 ≤ length (args_of c.args.t.now) = subst (λ l. 1 ≤ length l) exact sum.1 in
    if_some c.down_sum-lower.result (λ r. IsGreatest d xs w (IsSumUnder d xs f ts c.args.s) r.items) (λ r. IsGreatest d xs w (IsUnder d xs c.args.t.now c.args.s) r.items)
    (λ r g. found_greatest d xs w (IsUnder d xs c.args.t.now c.args.s) r.items
    (from_sum d xs c.recall_good.ensures w f c.args.s c.args.t.now c.requires.term (sym c.in-Some-head.ensures) (r.items ∷ []) sum.0 some
    (subst (λ l. Finds d xs (λ m. IsRowBelow d m w × IsSumUnder d xs f l c.args.s m) (r.items ∷ [])) exact (greatest_found d xs w (IsSumUnder d xs f ts c.args.s) r.items g))))
    c.down_sum-lower.ensures

pub down-down_over-lower-requires : goal.down-down_over-lower-requires
down-down_over-lower-requires t c =
    let d = c.args.search.now.sig.now in
    let f = c.in-Some-head.f in
    let exact = c.args-ts.ensures.exact in
    let none : IsAssociative (axioms d f) → args_of c.args.t.now ≡ [] = λ a. sym exact ∙ c.is_sum.ensures.no c.if-is_sum.false a in
    let head : head_of c.args.t.now ≡ Some f = sym c.in-Some-head.ensures in
    let is = unjoined_is d c.args.search.now.vars.now c.recall_good.ensures c.args.row.items f c.args.s c.args.t.now c.requires.term head [] none in (
      omega (arith, args_places f false c.args.t.now is, ap (λ l. places_all (fpack l)) exact),
      (
        c.requires.row,
        subst (λ l. Fits d (fapp f false (fpack l))) (sym exact) (unjoined_fits d c.args.search.now.vars.now c.recall_good.ensures c.args.row.items f c.args.s c.args.t.now c.requires.term head [] none),
      ),
    )

pub down-returns : goal.down-returns
down-returns t c =
    let d = c.args.search.now.sig.now in
    let xs = c.args.search.now.vars.now in
    let f = c.in-Some-head.f in
    let w = c.args.row.items in
    let ts = c.args-ts.result.now in
    let exact = c.args-ts.ensures.exact in
    let none : IsAssociative (axioms d f) → args_of c.args.t.now ≡ [] = λ a. sym exact ∙ c.is_sum.ensures.no c.if-is_sum.false a in
    if_some c.down_over-lower.result (λ r. IsGreatest d xs w (IsResultUnder d xs f ts c.args.s) r.items) (λ r. IsGreatest d xs w (IsUnder d xs c.args.t.now c.args.s) r.items)
    (λ r g. found_greatest d xs w (IsUnder d xs c.args.t.now c.args.s) r.items
    (from_over d xs c.recall_good.ensures w f c.args.s c.args.t.now c.requires.term (sym c.in-Some-head.ensures) (r.items ∷ []) none
    (subst (λ l. Finds d xs (λ m. IsRowBelow d m w × IsResultUnder d xs f l c.args.s m) (r.items ∷ [])) exact (greatest_found d xs w (IsResultUnder d xs f ts c.args.s) r.items g))))
    c.down_over-lower.ensures

-- arguments, one after another
pub down_all-loop-i-init : goal.down_all-loop-i-init
down_all-loop-i-init t c =
    let d = c.args.search.now.sig.now in
    let xs = c.args.search.now.vars.now in
    let w = c.args.row.items in
    front_none d xs c.recall_good.ensures w c.args.ts.now c.args.args.now c.requires.terms c.if-ts-args.false (w ∷ [])
    (narrow_start d xs w (AreUnder d xs c.args.ts.now c.args.args.now) c.requires.row (w ∷ []) refl)

pub down_all-bounds-args-i : goal.down_all-bounds-args-i
down_all-bounds-args-i t c = omega (arith, c.if-ts-args.false, c.loop-i-test.true)

pub down_all-down-requires : goal.down_all-down-requires
down_all-down-requires t c =
    let d = c.args.search.now.sig.now in (
      omega (arith, places_at c.args.ts.now c.loop-i.i c.index-ts-i.result c.loop-i-test.true c.index-ts-i.is),
      (
        (c.loop-i.invariant.found c.loop-i.lower.items (contains_here c.loop-i.lower.items [])).0,
        each_at (Fits d) c.args.ts.now c.requires.terms c.loop-i.i c.index-ts-i.result c.loop-i-test.true c.index-ts-i.is,
      ),
    )

pub down_all-loop-i-preserved : goal.down_all-loop-i-preserved
down_all-loop-i-preserved t c =
    let d = c.args.search.now.sig.now in
    let xs = c.args.search.now.vars.now in
    front_next d xs c.recall_good.ensures c.args.row.items c.args.ts.now c.args.args.now c.loop-i.i c.index-ts-i.result _
    c.loop-i-test.true (omega (arith, c.if-ts-args.false, c.loop-i-test.true)) c.index-ts-i.is (c.loop-i.lower.items ∷ []) (c.loop-i.lower.items ∷ []) (c.in-Some.next.items ∷ [])
    refl c.loop-i.invariant (greatest_above d xs c.loop-i.lower.items _ c.in-Some.next.items c.in-Some.ensures)

pub down_all-returns : goal.down_all-returns
down_all-returns t c =
    let d = c.args.search.now.sig.now in
    let xs = c.args.search.now.vars.now in
    found_greatest d xs c.args.row.items (AreUnder d xs c.args.ts.now c.args.args.now) c.loop-i.lower.items
    (front_all d xs c.recall_good.ensures c.args.row.items c.args.ts.now c.args.args.now
    (drop c.loop-i.i c.args.ts.now) (drop c.loop-i.i c.args.args.now) (c.loop-i.lower.items ∷ []) c.loop-i.invariant
    (inl (omega (arith, length-drop c.loop-i.i c.args.ts.now, c.loop-i-test.false))))

-- an operator over arguments
pub down_over-rank-rank-requires : goal.down_over-rank-rank-requires
down_over-rank-rank-requires t c = slice_get_within (ranks_of c.args.search.now.sig.now c.args.f) c.in-Some.i c.in-Some.ensures.at c.in-Some.ensures.is

pub down_over-down_all-lower-requires : goal.down_over-down_all-lower-requires
down_over-down_all-lower-requires t c = (omega arith, (c.requires.row, over_fit c.args.search.now.sig.now c.recall_good.ensures c.args.f c.args.ts.now c.requires.term))

pub down_over-returns : goal.down_over-returns
down_over-returns t c =
    let d = c.args.search.now.sig.now in
    let xs = c.args.search.now.vars.now in
    let w = c.args.row.items in
    let f = c.args.f in
    let s = c.args.s in
    let ts = c.args.ts.now in
    let rank = c.rank-rank.result.now in
    if_some c.down_all-lower.result (λ r. IsGreatest d xs w (AreUnder d xs ts c.as_slice.result.now) r.items) (λ r. IsGreatest d xs w (IsResultUnder d xs f ts s) r.items)
    (λ r g. found_greatest d xs w (IsResultUnder d xs f ts s) r.items
    (over_all d xs c.recall_good.ensures w f s ts c.requires.term (rank.args ∷ []) (only_arguments d s (ranks_of d f) c.in-Some.i c.in-Some.ensures rank c.rank-rank.ensures) (r.items ∷ [])
    (one_list d xs (λ args m. IsRowBelow d m w × AreUnder d xs ts args m) rank.args (r.items ∷ [])
    (greatest_found d xs w (AreUnder d xs ts rank.args) r.items (subst (λ a. IsGreatest d xs w (AreUnder d xs ts a) r.items) c.as_slice.ensures g)))))
    c.down_all-lower.ensures

-- a sum
pub down_sum-overflow_sub-last : goal.down_sum-overflow_sub-last
down_sum-overflow_sub-last t c = c.requires.sum.some

pub down_sum-bounds-ts-last : goal.down_sum-bounds-ts-last
down_sum-bounds-ts-last t c = omega (arith, c.requires.sum.some)

pub down_sum-down-lower-requires : goal.down_sum-down-lower-requires
down_sum-down-lower-requires t c =
    let some : 1 ≤ length c.args.ts.now = c.requires.sum.some in
    let within : length c.args.ts.now - 1 < length c.args.ts.now = omega arith in (
      omega (arith, places_at c.args.ts.now (length c.args.ts.now - 1) c.index-ts-last.result within c.index-ts-last.is),
      (c.requires.row, summand_fits c.args.search.now.sig.now c.args.f c.args.ts.now c.requires.sum (length c.args.ts.now - 1) c.index-ts-last.result within c.index-ts-last.is),
    )

pub down_sum-returns-then-last-eq0 : goal.down_sum-returns-then-last-eq0
down_sum-returns-then-last-eq0 t c =
    let d = c.args.search.now.sig.now in
    let xs = c.args.search.now.vars.now in
    let w = c.args.row.items in
    let f = c.args.f in
    let s = c.args.s in
    let ts = c.args.ts.now in
    let end = c.index-ts-last.result in
    let some : 1 ≤ length ts = c.requires.sum.some in
    let zero : length ts - 1 ≡ 0 = c.if-last-eq0.true in
    if_some c.down-lower.result (λ r. IsGreatest d xs w (IsUnder d xs end s) r.items) (λ r. IsGreatest d xs w (IsSumUnder d xs f ts s) r.items)
    (λ r g. found_greatest d xs w (IsSumUnder d xs f ts s) r.items
    (sum_one d xs w f s ts end (omega arith) (subst (λ n. end ≡ get_or ts n end) zero c.index-ts-last.is) (r.items ∷ []) (greatest_found d xs w (IsUnder d xs end s) r.items g)))
    c.down-lower.ensures

pub down_sum-rank-rank-requires : goal.down_sum-rank-rank-requires
down_sum-rank-rank-requires t c = slice_get_within (ranks_of c.args.search.now.sig.now c.args.f) c.in-Some.i c.in-Some.ensures.at c.in-Some.ensures.is

pub down_sum-down-requires : goal.down_sum-down-requires
down_sum-down-requires t c =
    let some : 1 ≤ length c.args.ts.now = c.requires.sum.some in
    let within : length c.args.ts.now - 1 < length c.args.ts.now = omega arith in (
      omega (arith, places_at c.args.ts.now (length c.args.ts.now - 1) c.index-ts-last.result within c.index-ts-last.is),
      (c.requires.row, summand_fits c.args.search.now.sig.now c.args.f c.args.ts.now c.requires.sum (length c.args.ts.now - 1) c.index-ts-last.result within c.index-ts-last.is),
    )

pub down_sum-down_sum-lower-requires : goal.down_sum-down_sum-lower-requires
down_sum-down_sum-lower-requires t c =
    let d = c.args.search.now.sig.now in
    let ts = c.args.ts.now in
    let n = length ts - 1 in
    let last = c.index-ts-last.result in
    let some : 1 ≤ length ts = c.requires.sum.some in
    let long : length ts ≡ n + 1 = omega arith in
    let within : n < length ts = omega arith in
    let several : 1 ≤ n = omega (arith, c.if-last-eq0.false) in (
      omega (arith, ap (λ l. places_all (fpack l)) (all_but_last ts n last long c.index-ts-last.is), places_push (take n ts) last, places_some last),
      (c.in-Some-down.ensures.is_row, front_summands d c.args.f ts c.requires.sum n several within),
    )

pub down_sum-returns : goal.down_sum-returns
down_sum-returns t c =
    let d = c.args.search.now.sig.now in
    let xs = c.args.search.now.vars.now in
    let w = c.args.row.items in
    let f = c.args.f in
    let s = c.args.s in
    let ts = c.args.ts.now in
    let n = length ts - 1 in
    let last = c.index-ts-last.result in
    let some : 1 ≤ length ts = c.requires.sum.some in
    let long : length ts ≡ n + 1 = omega arith in
    let within : n < length ts = omega arith in
    let several : 1 ≤ n = omega (arith, c.if-last-eq0.false) in
    let rank = c.rank-rank.result.now in
    let pair = c.in-Some-pair_of.pair in
    let middle = c.in-Some-down.middle.items in
    if_some c.down_sum-lower.result (λ r. IsGreatest d xs middle (IsSumUnder d xs f (take n ts) pair.0) r.items) (λ r. IsGreatest d xs w (IsSumUnder d xs f ts s) r.items)
    (λ r g. found_greatest d xs w (IsSumUnder d xs f ts s) r.items
    (sum_several d xs c.recall_good.ensures w f s ts n last c.requires.sum long several c.index-ts-last.is (rank.args ∷ []) (only_arguments d s (ranks_of d f) c.in-Some.i c.in-Some.ensures rank c.rank-rank.ensures) (r.items ∷ [])
    (one_list d xs (λ args m. IsRowBelow d m w × IsPairUnder d xs f (take n ts) last args m) rank.args (r.items ∷ [])
    (pair_found d xs c.recall_good.ensures w f (take n ts) last (summand_fits d f ts c.requires.sum n last within c.index-ts-last.is) pair.0 pair.1 rank.args (sym c.as_slice.ensures ∙ c.in-Some-pair_of.ensures)
    (w ∷ []) (middle ∷ []) (r.items ∷ [])
    (narrow_start d xs w (IsSumUnder d xs f (take n ts) pair.0) c.requires.row (w ∷ []) refl)
    (greatest_above d xs w (IsUnder d xs last pair.1) middle c.in-Some-down.ensures)
    (greatest_above d xs middle (IsSumUnder d xs f (take n ts) pair.0) r.items g)))))
    c.down_sum-lower.ensures
