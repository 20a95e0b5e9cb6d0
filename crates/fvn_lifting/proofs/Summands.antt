-- Two forms that stand in the lists of several forms stand in that of one of them, or in those of two.
use Rattle.std.proofs.Common.{◌≡◌, ◌⊎◌, ◌+◌, ◌<◌, ◌≤◌, Bool, true, false, List, [], ◌∷◌, ◌++◌, map, refl, ap, inl, inr, arith}
use Rattle.std.specs.List.{Contains}
use Rattle.std.proofs.lemmas.Bool.{cases_lt}
use Rattle.fvn_base.proofs.Membership.{contains_here, contains_later}
use Rattle.fvn_terms.specs.declared.declarations.Declarations.{Declarations}
use Rattle.fvn_terms.specs.declared.plain.OpId.{OpId}
use Rattle.fvn_forms.specs.Flat.{FlatTerm}
use Rattle.fvn_forms.specs.Order.{same_flat}
use Rattle.fvn_forms.specs.InOrder.{one_if, count}
use Rattle.fvn_forms.specs.Canon.{parts, all_parts}
use Rattle.fvn_forms.proofs.Order.{same_flat_is}
use Rattle.fvn_forms.proofs.InOrder.{count_append}
use Rattle.fvn_flat.specs.FlatPlaces.{IsDivided, divided, taking, leaving}

-- the lists of these forms, one after another
abbrev pub gathered : (FlatTerm → List FlatTerm) → List FlatTerm → List FlatTerm
gathered v [] = []
gathered v (t ∷ ts) = v t ++ gathered v ts

pub gathered_parts : (d : Declarations) (f : OpId) (g : FlatTerm → FlatTerm) (ts : List FlatTerm) → all_parts d f (map g ts) ≡ gathered (λ t. parts d f (g t)) ts
gathered_parts d f g [] = refl
gathered_parts d f g (t ∷ ts) = ap (λ l. parts d f (g t) ++ l) (gathered_parts d f g ts)

-- the counts of some and of the others are those of all
pub gathered_counts : (v : FlatTerm → List FlatTerm) (q : FlatTerm) {all taken others : List FlatTerm} → IsDivided all taken others → count q (gathered v all) ≡ count q (gathered v taken) + count q (gathered v others)
gathered_counts v q divided = refl
gathered_counts v q (taking {t} {all} {taken} {others} p) =
    let e = gathered_counts v q p in
    let a = count_append q (v t) (gathered v all) in
    let b = count_append q (v t) (gathered v taken) in
    omega arith
gathered_counts v q (leaving {t} {all} {taken} {others} p) =
    let e = gathered_counts v q p in
    let a = count_append q (v t) (gathered v all) in
    let b = count_append q (v t) (gathered v others) in
    omega arith

leave_all : (ts : List FlatTerm) → IsDivided ts [] ts
leave_all [] = divided
leave_all (t ∷ ts) = leaving (leave_all ts)

-- one of the forms has this one in its list
record HasOne (v : FlatTerm → List FlatTerm) (q : FlatTerm) (ts : List FlatTerm) : Type 0 where
  summand : FlatTerm
  others : List FlatTerm
  divided_into : IsDivided ts (summand ∷ []) others
  has : 1 ≤ count q (v summand)

some_has : (v : FlatTerm → List FlatTerm) (q : FlatTerm) (ts : List FlatTerm) → 1 ≤ count q (gathered v ts) → HasOne v q ts
some_has v q [] h = absurd (omega (arith, h))
some_has v q (t ∷ ts) h = go (cases_lt 0 (count q (v t))) (some_has v q ts) where
  go : (0 < count q (v t)) ⊎ (count q (v t) ≤ 0) → (1 ≤ count q (gathered v ts) → HasOne v q ts) → HasOne v q (t ∷ ts)
  go (inl l) more = record { summand = t; others = ts; divided_into = taking (leave_all ts); has = omega (arith, l) }
  go (inr z) more =
      let e = count_append q (v t) (gathered v ts) in
      let r = more (omega (arith, z, e, h)) in
      record { summand = r.summand; others = t ∷ r.others; divided_into = leaving r.divided_into; has = r.has }

module _ (a b : FlatTerm) where
  -- both stand in the list, twice where they are one
  abbrev pub HasBoth : List FlatTerm → Type 0
  HasBoth l = (one_if (same_flat a b) + 1 ≤ count a l) × (one_if (same_flat a b) + 1 ≤ count b l)

  one_each : (e : Bool) → same_flat a b ≡ e → (l m : List FlatTerm) → 1 ≤ count a l → 1 ≤ count b m → (one_if e + 1 ≤ count a (l ++ m)) × (one_if e + 1 ≤ count b (l ++ m))
  one_each true e l m ha hb =
      let s : a ≡ b = same_flat_is a b e in
      let k : count a m ≡ count b m = ap (λ q. count q m) s in
      let j : count a l ≡ count b l = ap (λ q. count q l) s in
      let x = count_append a l m in
      let y = count_append b l m in
      (omega (arith, ha, hb), omega (arith, ha, hb))
  one_each false e l m ha hb =
      let x = count_append a l m in
      let y = count_append b l m in
      (omega (arith, ha, hb), omega (arith, ha, hb))

  pub each_in_one : (l m : List FlatTerm) → 1 ≤ count a l → 1 ≤ count b m → HasBoth (l ++ m)
  each_in_one l m ha hb = one_each (same_flat a b) refl l m ha hb

  turned_each : (l m : List FlatTerm) → 1 ≤ count b l → 1 ≤ count a m → HasBoth (l ++ m)
  turned_each l m hb ha =
      let h = each_in_one m l ha hb in
      let x = count_append a l m in
      let y = count_append b l m in
      let z = count_append a m l in
      let w = count_append b m l in
      (omega (arith, h.0), omega (arith, h.1))

  module _ (v : FlatTerm → List FlatTerm) where
    -- the list of one of the forms has both
    pub record HasBothInOne (ts : List FlatTerm) : Type 0 where
      pub summand : FlatTerm
      pub listed : Contains ts summand
      pub has : HasBoth (v summand)

    -- the lists of two of them have
    pub record HasBothInTwo (ts : List FlatTerm) : Type 0 where
      pub first : FlatTerm
      pub second : FlatTerm
      pub others : List FlatTerm
      pub divided_into : IsDivided ts (first ∷ second ∷ []) others
      pub has : HasBoth (v first ++ v second)

    later_too : (t : FlatTerm) (ts : List FlatTerm) → HasBothInOne ts ⊎ HasBothInTwo ts → HasBothInOne (t ∷ ts) ⊎ HasBothInTwo (t ∷ ts)
    later_too t ts (inl o) = inl record { summand = o.summand; listed = contains_later t ts o.summand o.listed; has = o.has }
    later_too t ts (inr o) = inr record { first = o.first; second = o.second; others = t ∷ o.others; divided_into = leaving o.divided_into; has = o.has }

    pub some_have : (ts : List FlatTerm) → HasBoth (gathered v ts) → HasBothInOne ts ⊎ HasBothInTwo ts
    some_have [] h = let low = h.0 in absurd (omega (arith, low))
    some_have (t ∷ ts) h = go (cases_lt 0 (count a (v t))) (cases_lt 0 (count b (v t))) (cases_lt 0 (count a (gathered v ts))) (cases_lt 0 (count b (gathered v ts))) (some_have ts) where
      x : count a (v t ++ gathered v ts) ≡ count a (v t) + count a (gathered v ts)
      x = count_append a (v t) (gathered v ts)

      y : count b (v t ++ gathered v ts) ≡ count b (v t) + count b (gathered v ts)
      y = count_append b (v t) (gathered v ts)

      straight : 0 < count a (v t) → 0 < count b (gathered v ts) → HasBothInTwo (t ∷ ts)
      straight i j =
          let w = some_has v b ts (omega (arith, j)) in
          record { first = t; second = w.summand; others = w.others; divided_into = taking w.divided_into; has = each_in_one (v t) (v w.summand) (omega (arith, i)) w.has }

      crossed : 0 < count b (v t) → 0 < count a (gathered v ts) → HasBothInTwo (t ∷ ts)
      crossed i j =
          let w = some_has v a ts (omega (arith, j)) in
          record { first = t; second = w.summand; others = w.others; divided_into = taking w.divided_into; has = turned_each (v t) (v w.summand) (omega (arith, i)) w.has }

      go : (0 < count a (v t)) ⊎ (count a (v t) ≤ 0) → (0 < count b (v t)) ⊎ (count b (v t) ≤ 0) →
          (0 < count a (gathered v ts)) ⊎ (count a (gathered v ts) ≤ 0) → (0 < count b (gathered v ts)) ⊎ (count b (gathered v ts) ≤ 0) →
          (HasBoth (gathered v ts) → HasBothInOne ts ⊎ HasBothInTwo ts) → HasBothInOne (t ∷ ts) ⊎ HasBothInTwo (t ∷ ts)
      go (inl i) second third (inl j) more = inr (straight i j)
      go (inl i) (inl j) (inl k) (inr l) more = inr (crossed j k)
      go (inl i) (inl j) (inr k) (inr l) more = let p = h.0 in let q = h.1 in inl record { summand = t; listed = contains_here t ts; has = (omega (arith, p, x, k), omega (arith, q, y, l)) }
      go (inl i) (inr j) third (inr l) more = let q = h.1 in absurd (omega (arith, q, y, j, l))
      go (inr i) (inl j) (inl k) fourth more = inr (crossed j k)
      go (inr i) (inl j) (inr k) fourth more = let p = h.0 in absurd (omega (arith, p, x, i, k))
      go (inr i) (inr j) third fourth more = let p = h.0 in let q = h.1 in later_too t ts (more (omega (arith, p, x, i), omega (arith, q, y, j)))
