-- The columns that are collected, and what a solver asks of the rows over them.
use Rattle.std.proofs.Common.{◌≡◌, ◌≢◌, ℕ, zero, suc, ◌+◌, ◌-◌, ◌<◌, ◌≤◌, Bool, true, false, List, [], ◌∷◌, ◌++◌, length, map, get_or, refl, sym, ap, ◌∙◌, subst, inl, inr, arith, All, Contains, Option, Some, None, slice_get}
use Rattle.std.specs.Prelude.{pos, negsuc, ◌-ℤ◌, unsigned_abs, nat_eq, nat_lt, cond}
use Rattle.std.proofs.lemmas.Bool.{ltb-true}
use Rattle.std.proofs.lemmas.List.{length-map, get_or_default}
use Rattle.std.proofs.lemmas.List.Elements.{All-contains, All-map, Contains-append_left, Contains-push, Contains-push_cases}
use Rattle.std.proofs.lemmas.List.Quantifiers.{all_pairs_push}
use Rattle.fvn_base.specs.declared.limits.TheConstants.{COLUMNS, COMPONENT}
use Rattle.fvn_base.proofs.Membership.{contains_cases, contains_none, contains_map}
use Rattle.fvn_base.proofs.Pigeonhole.{length-le_within}
use Rattle.fvn_terms.specs.declared.plain.OpId.{OpId}
use Rattle.fvn_forms.specs.InOrder.{one_if}
use Rattle.fvn_lindio.specs.declared.system.System.{System}
use Rattle.fvn_lindio.specs.Systems.{rows_of, IsSystem}
use Rattle.fvn_combine_nodes.specs.Table.{NodeTable}
use Rattle.fvn_combine_nodes.proofs.Lists.{contains_flat_map, flat_map_contains}
use Rattle.fvn_combine_systems.specs.NodeSystems.{HoldsArguments, addends, sums, stands_in, coefficient, row_at, IsIdentityClass, IsNodeColumn, IsNodeSystem}
use Rattle.fvn_combine_reading.specs.inner.Collecting.{classes_with, classes_at, classes_among, AreOnce}
use Rattle.fvn_combine_systems.proofs.Members.{addends_over, over_addends}

module _ (Left : ℕ → Type 0) where
  pub once_none : AreOnce Left [] []
  once_none = record {
    distinct = λ i j d l m. absurd (omega (arith, m));
    listed = λ k c. absurd (contains_none k c);
    all = λ k c n. absurd (contains_none k c);
  }

  -- one more number that is new
  pub once_new : (list once : List ℕ) (k : ℕ) → AreOnce Left list once → (Contains once k → ⊥) → (Left k → ⊥) → AreOnce Left (list ++ k ∷ []) (once ++ k ∷ [])
  once_new list once k h new kept = record {
    distinct = all_pairs_push ◌≢◌ once k h.distinct (λ i d l e. new (i, l, at i d l e));
    listed = λ j c. elim (Contains-push_cases once k j c) [
      | inl old ↦ let r = h.listed j old in (Contains-append_left list (k ∷ []) j r.0, r.1)
      | inr e ↦ (subst (Contains (list ++ k ∷ [])) e (Contains-push list k), subst (λ n. Left n → ⊥) e kept)
    ];
    all = λ j c n. elim (Contains-push_cases list k j c) [
      | inl old ↦ Contains-append_left once (k ∷ []) j (h.all j old n)
      | inr e ↦ subst (Contains (once ++ k ∷ [])) e (Contains-push once k)
    ];
  }
    where
      at : (i d : ℕ) → i < length once → get_or once i d ≡ k → get_or once i k ≡ k
      at i d l e = get_or_default once i k d l ∙ e

  -- one that is there
  pub once_old : (list once : List ℕ) (k : ℕ) → AreOnce Left list once → Contains once k → AreOnce Left (list ++ k ∷ []) once
  once_old list once k h there = record {
    distinct = h.distinct;
    listed = λ j c. let r = h.listed j c in (Contains-append_left list (k ∷ []) j r.0, r.1);
    all = λ j c n. elim (Contains-push_cases list k j c) [
      | inl old ↦ h.all j old n
      | inr e ↦ subst (Contains once) e there
    ];
  }

  -- one that is left out
  pub once_left : (list once : List ℕ) (k : ℕ) → AreOnce Left list once → Left k → AreOnce Left (list ++ k ∷ []) once
  once_left list once k h left = record {
    distinct = h.distinct;
    listed = λ j c. let r = h.listed j c in (Contains-append_left list (k ∷ []) j r.0, r.1);
    all = λ j c n. elim (Contains-push_cases list k j c) [
      | inl old ↦ h.all j old n
      | inr e ↦ absurd (n (subst Left e left))
    ];
  }

-- a difference is at most both parts together
difference_le : (m n : ℕ) → unsigned_abs (pos m -ℤ pos n) ≤ m + n
difference_le m zero = omega arith
difference_le m (suc n) = go (nat_lt m (suc n)) refl
  where
    go : (b : Bool) → nat_lt m (suc n) ≡ b → unsigned_abs (cond b (negsuc (suc n - suc m)) (pos (m - suc n))) ≤ m + suc n
    go true e = let l = ltb-true m (suc n) e in omega (arith, l)
    go false e = omega arith

one_if_le : (b : Bool) → one_if b ≤ 1
one_if_le true = omega arith
one_if_le false = omega arith

module _ (t : NodeTable) (class : ℕ → ℕ) (f : OpId) where
  coefficient_le : (i : ℕ) (p : Option (ℕ × ℕ)) (k : ℕ) → unsigned_abs (coefficient class i p k) ≤ 3
  coefficient_le i None k = omega arith
  coefficient_le i (Some p) k =
      let a = one_if_le (nat_eq (class p.0) k) in
      let b = one_if_le (nat_eq (class p.1) k) in
      let c = one_if_le (nat_eq (class i) k) in
      let e = difference_le (stands_in class k p.0 + stands_in class k p.1) (stands_in class k i) in
      omega (arith, a, b, c, e)

  module _ (columns : List ℕ) (once : AreOnce (IsIdentityClass t class f) (classes_among class t f t.subterms) columns) where
    column_from : (k : ℕ) → Contains columns k → IsNodeColumn t class f k
    column_from k c =
        let r = once.listed k c in
        let q = flat_map_contains (classes_at class t f) t.subterms k r.0 in
        go q.0 q.1 (addends f (slice_get t.nodes q.0)) refl q.2 r.1
      where
        go : (i : ℕ) → Contains t.subterms i → (o : Option (ℕ × ℕ)) → addends f (slice_get t.nodes i) ≡ o → Contains (classes_with class i o) k → (IsIdentityClass t class f k → ⊥) → IsNodeColumn t class f k
        go i listed None e h free = absurd (contains_none k h)
        go i listed (Some p) e h free = record { sum = i; left = p.0; right = p.1; listed = listed; over = addends_over f (slice_get t.nodes i) p e; among = h; no_identity = free }

    column_in : (k : ℕ) → IsNodeColumn t class f k → Contains columns k
    column_in k h =
        let is : addends f (slice_get t.nodes h.sum) ≡ Some (h.left, h.right) = ap (addends f) h.over ∙ over_addends f h.left h.right in
        once.all k (contains_flat_map (classes_at class t f) t.subterms h.sum k h.listed (subst (λ o. Contains (classes_with class h.sum o) k) (sym is) h.among)) h.no_identity

    -- each column is the class of a subterm, so that there are no more columns than subterms
    columns_few : HoldsArguments t → length columns ≤ length t.subterms
    columns_few holds = let l = length-le_within columns (map class t.subterms) once.distinct among in let n = length-map t.subterms class in omega (arith, l, n)
      where
        among : (k : ℕ) → Contains columns k → Contains (map class t.subterms) k
        among k c =
            let h = column_from k c in
            let args = holds h.sum f (h.left ∷ h.right ∷ []) h.listed h.over in
            let in_class : (i : ℕ) → Contains t.subterms i → class i ≡ k → Contains (map class t.subterms) k = λ i l e. subst (Contains (map class t.subterms)) e (contains_map class t.subterms i l) in
            elim (contains_cases (class h.sum) (class h.left ∷ class h.right ∷ []) k h.among) [
              | inl e ↦ in_class h.sum h.listed e
              | inr r ↦ elim (contains_cases (class h.left) (class h.right ∷ []) k r) [
                | inl e ↦ in_class h.left (All-contains (Contains t.subterms) (h.left ∷ h.right ∷ []) h.left args (0, omega arith, refl)) e
                | inr q ↦ elim (contains_cases (class h.right) [] k q) [
                  | inl e ↦ in_class h.right (All-contains (Contains t.subterms) (h.left ∷ h.right ∷ []) h.right args (1, omega arith, refl)) e
                  | inr z ↦ absurd (contains_none k z)
                ]
              ]
            ]

    module _ (system : System) (wide : system.columns ≡ length columns) (rows : rows_of system ≡ map (row_at t class f columns) (sums t f)) where
      pub system_is : IsNodeSystem t class f columns system
      system_is = record { distinct = once.distinct; exact = λ k. (column_from k, column_in k); wide = wide; rows = rows }

      pub system_fits : HoldsArguments t → length t.subterms ≤ COLUMNS → IsSystem system
      system_fits holds few = record {
        columns = let l = columns_few holds in omega (arith, l, few, wide);
        sized = subst (All (λ row. length row ≡ system.columns)) (sym rows) (All-map (λ row. length row ≡ system.columns) (row_at t class f columns) (sums t f) (λ k d l. length-map columns (coefficient class _ _) ∙ sym wide));
        bounded = subst (All (All (λ c. unsigned_abs c ≤ COMPONENT))) (sym rows) (All-map (All (λ c. unsigned_abs c ≤ COMPONENT)) (row_at t class f columns) (sums t f) (λ k d l. row_bounded _));
      }
        where
          row_bounded : (i : ℕ) → All (λ c. unsigned_abs c ≤ COMPONENT) (row_at t class f columns i)
          row_bounded i = All-map (λ c. unsigned_abs c ≤ COMPONENT) (coefficient class i (addends f (slice_get t.nodes i))) columns (λ k d l. let e = coefficient_le i (addends f (slice_get t.nodes i)) (get_or columns k d) in omega (arith, e))
