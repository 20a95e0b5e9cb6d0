-- Going down the results ends at a least one where there is one.
use Rattle.std.proofs.Common.{◌≡◌, ◌⊎◌, Bool, true, false, List, [], ◌∷◌, refl, sym, ap, subst, ◌∙◌, inl, inr}
use Rattle.std.specs.Prelude.{Some, None, cond, find}
use Rattle.std.specs.List.{Contains}
use Rattle.std.proofs.lemmas.Bool.{false≢true}
use Rattle.fvn_base.proofs.Membership.{contains_here, contains_later, contains_cases, contains_none, list_all_from, list_all_gives}
use Rattle.fvn_terms.specs.declared.plain.SortId.{SortId}
use Rattle.fvn_terms.specs.declared.declarations.Declarations.{Declarations}
use Rattle.fvn_forms.specs.SortOrder.{at_or_below}
use Rattle.fvn_forms.specs.Ranks.{is_lowest}
use Rattle.fvn_forms.proofs.SortOrder.{AtOrBelow-trans, AtOrBelow-from_same}
use Rattle.fvn_forms.proofs.SortTests.{at_or_below-true, at_or_below-complete}
use Rattle.fvn_signature.specs.inner.Lowering.{lower_sort, lowered_from, lowered}

-- a search finds nothing where nothing passes
find_none : {A : Type 0} (p : A → Bool) (xs : List A) → ((x : A) → Contains xs x → p x ≡ false) → find p xs ≡ None
find_none p [] each = refl
find_none p (x ∷ xs) each = ap (λ b. cond b (Some x) (find p xs)) (each x (contains_here x xs)) ∙ find_none p xs (λ y h. each y (contains_later x xs y h))

-- tests that agree on a list find the same there
find_same : {A : Type 0} (p q : A → Bool) (xs : List A) → ((x : A) → Contains xs x → p x ≡ q x) → find p xs ≡ find q xs
find_same p q [] each = refl
find_same {A} p q (x ∷ xs) each = ap (λ b. cond b (Some x) (find p xs)) (each x (contains_here x xs)) ∙ ap (cond (q x) (Some x)) (find_same p q xs (λ y h. each y (contains_later x xs y h)))

-- both hold or neither
same_tests : (a b : Bool) → (a ≡ true → b ≡ true) → (b ≡ true → a ≡ true) → a ≡ b
same_tests true b forth back = sym (forth refl)
same_tests false true forth back = back refl
same_tests false false forth back = refl

-- what is not true is false
refuted : (b : Bool) → (b ≡ true → ⊥) → b ≡ false
refuted true n = absurd (n refl)
refuted false n = refl

module _ (d : Declarations) where
  self : (s : SortId) → at_or_below d s s ≡ true
  self s = at_or_below-complete d (AtOrBelow-from_same d refl)

  on : (s q r : SortId) → at_or_below d s q ≡ true → at_or_below d q r ≡ true → at_or_below d s r ≡ true
  on s q r h k = at_or_below-complete d (AtOrBelow-trans d (at_or_below-true d s q h) (at_or_below-true d q r k))

  lower_first : (c r : SortId) → at_or_below d (lower_sort d c r) c ≡ true
  lower_first c r = go (at_or_below d r c) refl where
    go : (b : Bool) → at_or_below d r c ≡ b → at_or_below d (cond b r c) c ≡ true
    go true e = e
    go false e = self c

  lower_both : (x c r : SortId) → at_or_below d x c ≡ true → at_or_below d x r ≡ true → at_or_below d x (lower_sort d c r) ≡ true
  lower_both x c r h k = go (at_or_below d r c) where
    go : (b : Bool) → at_or_below d x (cond b r c) ≡ true
    go true = k
    go false = h

  lower_one : (c r : SortId) → (lower_sort d c r ≡ c) ⊎ (lower_sort d c r ≡ r)
  lower_one c r = go (at_or_below d r c) where
    go : (b : Bool) → (cond b r c ≡ c) ⊎ (cond b r c ≡ r)
    go true = inr refl
    go false = inl refl

  ends_below : (rs : List SortId) (c : SortId) → at_or_below d (lowered_from d c rs) c ≡ true
  ends_below [] c = self c
  ends_below (r ∷ rs) c = on (lowered_from d (lower_sort d c r) rs) (lower_sort d c r) c (ends_below rs (lower_sort d c r)) (lower_first c r)

  ends_within : (rs : List SortId) (c : SortId) → Contains (c ∷ rs) (lowered_from d c rs)
  ends_within [] c = contains_here c []
  ends_within (r ∷ rs) c = elim (contains_cases (lower_sort d c r) rs (lowered_from d (lower_sort d c r) rs) (ends_within rs (lower_sort d c r))) [
    | inl e ↦ elim (lower_one c r) [
      | inl a ↦ subst (Contains (c ∷ r ∷ rs)) (sym a ∙ e) (contains_here c (r ∷ rs))
      | inr a ↦ subst (Contains (c ∷ r ∷ rs)) (sym a ∙ e) (contains_later c (r ∷ rs) r (contains_here r rs))
    ]
    | inr h ↦ contains_later c (r ∷ rs) (lowered_from d (lower_sort d c r) rs) (contains_later r rs (lowered_from d (lower_sort d c r) rs) h)
  ]

  -- it ends at or below each that is at or below all
  ends_lowest : (rs : List SortId) (c x : SortId) → Contains (c ∷ rs) x → ((y : SortId) → Contains (c ∷ rs) y → at_or_below d x y ≡ true) → at_or_below d (lowered_from d c rs) x ≡ true
  ends_lowest [] c x h all = elim (contains_cases c [] x h) [
    | inl e ↦ subst (λ y. at_or_below d c y ≡ true) e (self c)
    | inr i ↦ absurd (contains_none x i)
  ]
  ends_lowest (r ∷ rs) c x h all =
      let l = lower_sort d c r in
      let below : at_or_below d x l ≡ true = lower_both x c r (all c (contains_here c (r ∷ rs))) (all r (contains_later c (r ∷ rs) r (contains_here r rs))) in
      elim (contains_cases c (r ∷ rs) x h) [
        | inl e ↦ on (lowered_from d l rs) l x (ends_below rs l) (subst (λ y. at_or_below d l y ≡ true) e (lower_first c r))
        | inr i ↦ elim (contains_cases r rs x i) [
          | inl e ↦
              let down : at_or_below d r c ≡ true = subst (λ y. at_or_below d y c ≡ true) (sym e) (all c (contains_here c (r ∷ rs))) in
              let is : l ≡ r = ap (λ b. cond b r c) down in
              subst (λ y. at_or_below d (lowered_from d l rs) y ≡ true) (is ∙ e) (ends_below rs l)
          | inr j ↦ ends_lowest rs l x (contains_later l rs x j) (λ y k. elim (contains_cases l rs y k) [
            | inl e ↦ subst (λ z. at_or_below d x z ≡ true) e below
            | inr m ↦ all y (contains_later c (r ∷ rs) y (contains_later r rs y m))
          ])
        ]
      ]

  from_some : (c : SortId) (rs : List SortId) → lowered d (Some c) rs ≡ Some (lowered_from d c rs)
  from_some c [] = refl
  from_some c (r ∷ rs) = from_some (lower_sort d c r) rs

  lowest_below : (rs : List SortId) (x y : SortId) → is_lowest d rs x ≡ true → Contains rs y → at_or_below d x y ≡ true
  lowest_below rs x y h i = list_all_gives (at_or_below d x) rs y h i

  -- without results there is no least one
  pub none_lowest : (rs : List SortId) → lowered d None rs ≡ None → find (is_lowest d rs) rs ≡ None
  none_lowest [] e = refl
  none_lowest (r ∷ rs) e = absurd (let some : Some (lowered_from d r rs) ≡ None = sym (from_some r rs) ∙ e in cc)

  some_is : (r : SortId) (rs : List SortId) (s : SortId) → lowered d None (r ∷ rs) ≡ Some s → lowered_from d r rs ≡ s
  some_is r rs s e = let some : Some (lowered_from d r rs) ≡ Some s = sym (from_some r rs) ∙ e in cc

  -- where the one that it ends at is not least, none is
  pub not_lowest : (rs : List SortId) (s : SortId) → lowered d None rs ≡ Some s → is_lowest d rs s ≡ false → find (is_lowest d rs) rs ≡ None
  not_lowest [] s e n = refl
  not_lowest (r ∷ rs) s e n = find_none (is_lowest d (r ∷ rs)) (r ∷ rs) (λ x h. refuted (is_lowest d (r ∷ rs) x) (λ all.
      let down : at_or_below d s x ≡ true = subst (λ t. at_or_below d t x ≡ true) (some_is r rs s e) (ends_lowest rs r x h (λ y i. lowest_below (r ∷ rs) x y all i)) in
      false≢true (sym n ∙ list_all_from (at_or_below d s) (r ∷ rs) (λ y i. on s x y down (lowest_below (r ∷ rs) x y all i)))))

  -- where it is, the first least one is the first that is at or below it
  pub first_lowest : (rs : List SortId) (s : SortId) → lowered d None rs ≡ Some s → is_lowest d rs s ≡ true → find (λ r. at_or_below d r s) rs ≡ find (is_lowest d rs) rs
  first_lowest [] s e l = refl
  first_lowest (r ∷ rs) s e l = find_same (λ t. at_or_below d t s) (is_lowest d (r ∷ rs)) (r ∷ rs) (λ x h. same_tests (at_or_below d x s) (is_lowest d (r ∷ rs) x)
      (λ down. list_all_from (at_or_below d x) (r ∷ rs) (λ y i. on x s y down (lowest_below (r ∷ rs) s y l i)))
      (λ all. lowest_below (r ∷ rs) x s all (subst (Contains (r ∷ rs)) (some_is r rs s e) (ends_within rs r))))
