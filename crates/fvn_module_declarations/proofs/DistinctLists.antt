-- Pairs of two groups are those of their distinct sorts.
use Rattle.std.proofs.Common.{◌≡◌, ℕ, Bool, true, false, cond, List, [], ◌∷◌, ◌++◌, map, refl, sym, ap, subst, ◌∙◌, ◌⊎◌, inl, inr, nat_eq}
use Rattle.std.specs.List.{Contains, list_any}
use Rattle.std.proofs.lemmas.Bool.{cond-true, cases_eq, eq-eqb, ne_eqb, or_left, or_right}
use Rattle.std.proofs.lemmas.List.{append-nil, append_assoc, map-append}
use Rattle.std.proofs.lemmas.List.Elements.{Contains-append_left, Contains-append_right}
use Rattle.std.proofs.lemmas.Map.Views.{Contains-from_any}
use Rattle.fvn_terms.specs.declared.plain.SortId.{SortId}
use Rattle.fvn_base.proofs.Membership.{contains_here, contains_later, contains_cases, contains_none, contains_map}
use Rattle.fvn_forms.specs.SortOrder.{sort_number, same_sort}
use Rattle.fvn_forms.proofs.SortTests.{same_sort-true, same_sort-self}
use Rattle.fvn_signature_draft.specs.declared.collected.Collected.{Collected}
use Rattle.fvn_module_names.specs.Order.{same_pair, with_new, with_all, crossed}
use Rattle.fvn_module_declarations.specs.inner.Pairs.{with_more, row}
use Rattle.fvn_module_names.proofs.NewLists.{with_all-append, with_all_contains}
use Rattle.fvn_module_names.proofs.Partitions.{same_pair-true}

abbrev Pair : Type 0
Pair = SortId × SortId

-- what is there is found
module _ {A : Type 0} (same : A → A → Bool) (self : (x : A) → same x x ≡ true) where
  found : (xs : List A) (y : A) → Contains xs y → list_any (same y) xs ≡ true
  found [] y h = absurd (contains_none y h)
  found (x ∷ xs) y h = go (contains_cases x xs y h) (found xs y) where
    go : (x ≡ y) ⊎ Contains xs y → (Contains xs y → list_any (same y) xs ≡ true) → list_any (same y) (x ∷ xs) ≡ true
    go (inl e) later = or_left (same y x) (list_any (same y) xs) (subst (λ z. same y z ≡ true) (sym e) (self y))
    go (inr i) later = or_right (same y x) (list_any (same y) xs) (later i)

  -- what is there is not added
  pub with_new-there : (xs : List A) (y : A) → Contains xs y → with_new same xs y ≡ xs
  with_new-there xs y h = cond-true (list_any (same y) xs) xs (xs ++ y ∷ []) (found xs y h)

  pub with_all-there : (xs ys : List A) → ((y : A) → Contains ys y → Contains xs y) → with_all same xs ys ≡ xs
  with_all-there xs [] h = refl
  with_all-there xs (y ∷ ys) h =
      ap (λ zs. with_all same zs ys) (with_new-there xs y (h y (contains_here y ys)))
      ∙ with_all-there xs ys (λ z c. h z (contains_later y ys z c))

pub same_pair-self : (p : SortId × SortId) → same_pair p p ≡ true
same_pair-self p = rw (same_sort-self p.0, same_sort-self p.1) refl

-- Rows of distinct sorts.

module _ (s : SortId) where
  row_distinct : (ps : List Pair) (acc qs : List SortId) → with_all same_pair ps (row s (with_all same_sort acc qs)) ≡ with_all same_pair (with_all same_pair ps (row s acc)) (row s qs)
  row_distinct ps acc [] = refl
  row_distinct ps acc (q ∷ qs) =
      row_distinct ps (with_new same_sort acc q) qs ∙ ap (λ zs. with_all same_pair zs (row s qs)) (go (list_any (same_sort q) acc) refl) where
        here : with_all same_pair ps (row s acc ++ (s, q) ∷ []) ≡ with_new same_pair (with_all same_pair ps (row s acc)) (s, q)
        here = with_all-append same_pair ps (row s acc) ((s, q) ∷ [])

        go : (b : Bool) → list_any (same_sort q) acc ≡ b → with_all same_pair ps (row s (cond b acc (acc ++ q ∷ []))) ≡ with_new same_pair (with_all same_pair ps (row s acc)) (s, q)
        go true e = sym (with_new-there same_pair same_pair-self (with_all same_pair ps (row s acc)) (s, q)
            (with_all_contains same_pair same_pair-true ps (row s acc) (s, q) (contains_map (λ q. (s, q)) acc q (Contains-from_any same_sort-true q acc e))))
        go false e = ap (with_all same_pair ps) (map-append (λ q. (s, q)) acc (q ∷ [])) ∙ here

-- the pairs of sorts with distinct ones
crossed_upper : (ps : List Pair) (ss qs : List SortId) → with_all same_pair ps (crossed ss (with_all same_sort [] qs)) ≡ with_all same_pair ps (crossed ss qs)
crossed_upper ps [] qs = refl
crossed_upper ps (s ∷ ss) qs =
    with_all-append same_pair ps (row s (with_all same_sort [] qs)) (crossed ss (with_all same_sort [] qs))
    ∙ ap (λ zs. with_all same_pair zs (crossed ss (with_all same_sort [] qs))) (row_distinct s ps [] qs)
    ∙ crossed_upper (with_all same_pair ps (row s qs)) ss qs
    ∙ sym (with_all-append same_pair ps (row s qs) (crossed ss qs))

crossed-append : (ss ts qs : List SortId) → crossed (ss ++ ts) qs ≡ crossed ss qs ++ crossed ts qs
crossed-append [] ts qs = refl
crossed-append (s ∷ ss) ts qs = ap (λ zs. row s qs ++ zs) (crossed-append ss ts qs) ∙ sym (append_assoc (row s qs) (crossed ss qs) (crossed ts qs))

-- a row of a sort that is among these
in_crossed : (ss qs : List SortId) (s : SortId) → Contains ss s → (p : Pair) → Contains (row s qs) p → Contains (crossed ss qs) p
in_crossed [] qs s h p c = absurd (contains_none s h)
in_crossed (t ∷ ss) qs s h p c = elim (contains_cases t ss s h) [
  | inl e ↦ Contains-append_left (row t qs) (crossed ss qs) p (subst (λ (z : SortId). Contains (row z qs) p) (sym e) c)
  | inr i ↦ Contains-append_right (row t qs) (crossed ss qs) p (in_crossed ss qs s i p c)
]

-- the pairs of distinct sorts
crossed_lower : (ps : List Pair) (acc ss qs : List SortId) → with_all same_pair ps (crossed (with_all same_sort acc ss) qs) ≡ with_all same_pair (with_all same_pair ps (crossed acc qs)) (crossed ss qs)
crossed_lower ps acc [] qs = refl
crossed_lower ps acc (s ∷ ss) qs =
    crossed_lower ps (with_new same_sort acc s) ss qs
    ∙ ap (λ zs. with_all same_pair zs (crossed ss qs)) (go (list_any (same_sort s) acc) refl)
    ∙ sym (with_all-append same_pair (with_all same_pair ps (crossed acc qs)) (row s qs) (crossed ss qs)) where
      go : (b : Bool) → list_any (same_sort s) acc ≡ b → with_all same_pair ps (crossed (cond b acc (acc ++ s ∷ [])) qs) ≡ with_all same_pair (with_all same_pair ps (crossed acc qs)) (row s qs)
      go true e = sym (with_all-there same_pair same_pair-self (with_all same_pair ps (crossed acc qs)) (row s qs)
          (λ p c. with_all_contains same_pair same_pair-true ps (crossed acc qs) p (in_crossed acc qs s (Contains-from_any same_sort-true s acc e) p c)))
      go false e =
          ap (with_all same_pair ps) (crossed-append acc (s ∷ []) qs ∙ ap (λ zs. crossed acc qs ++ zs) (append-nil (row s qs)))
          ∙ with_all-append same_pair ps (crossed acc qs) (row s qs)

pub crossed_distinct : (c : Collected) (ss qs : List SortId) → with_more c (crossed (with_all same_sort [] ss) (with_all same_sort [] qs)) ≡ with_more c (crossed ss qs)
crossed_distinct c ss qs = ap (λ ps. record c { below = ps }) (crossed_lower c.below [] ss (with_all same_sort [] qs) ∙ crossed_upper c.below ss qs)

pub with_more-append : (c : Collected) (ps qs : List (SortId × SortId)) → with_more c (ps ++ qs) ≡ with_more (with_more c ps) qs
with_more-append c ps qs = ap (λ rs. record c { below = rs }) (with_all-append same_pair c.below ps qs)

-- Numbers as sorts.

pub any_number : (i : ℕ) (xs : List ℕ) → list_any (same_sort (sort_number i)) (map sort_number xs) ≡ list_any (λ y. nat_eq y i) xs
any_number i [] = refl
any_number i (x ∷ xs) = go (cases_eq x i) (any_number i xs) where
  go : (x ≡ i) ⊎ (x ≡ i → ⊥) → list_any (same_sort (sort_number i)) (map sort_number xs) ≡ list_any (λ y. nat_eq y i) xs → list_any (same_sort (sort_number i)) (map sort_number (x ∷ xs)) ≡ list_any (λ y. nat_eq y i) (x ∷ xs)
  go (inl e) later = or_left (nat_eq i x) _ (eq-eqb i x (sym e)) ∙ sym (or_left (nat_eq x i) _ (eq-eqb x i e))
  go (inr n) later = rw (ne_eqb i x (λ e. n (sym e)), ne_eqb x i n) later
