-- The operators of a list that use a class.
use Rattle.std.proofs.Common.{◌≡◌, ℕ, ◌+◌, ◌<◌, ◌≤◌, true, List, length, get_or, refl, sym, ◌∙◌, subst, inl, inr, arith, Option, Some, None}
use Rattle.std.specs.Prelude.{is_some, slice_get}
use Rattle.std.proofs.lemmas.Bool.{cases_lt}
use Rattle.std.proofs.lemmas.Option.{slice_get_within, slice_get-get_or}
use Rattle.fvn_combine_leaves.specs.declared.reading.Sums.{Sums}
use Rattle.fvn_combine_leaves.specs.Users.{IsMarked, IsUserAt, IsFirstUser, HasTwoUsers}

-- the operator at a place is the one that is read there
entry_is : (sums : List Sums) (i k : ℕ) (item : Sums) → i < length sums → item ≡ get_or sums i item → (u : IsUserAt sums i k) → u.entry ≡ item
entry_is sums i k item l at u = let e : Some u.entry ≡ Some (get_or sums i item) = sym u.is ∙ slice_get-get_or sums i item l in let one : u.entry ≡ get_or sums i item = cc in one ∙ sym at

-- one more that does not use the class
pub no_user_more : (sums : List Sums) (start k i : ℕ) (item : Sums) → i < length sums → item ≡ get_or sums i item → (IsMarked item k → ⊥) → ((j : ℕ) → start ≤ j → j < i → IsUserAt sums j k → ⊥) → (j : ℕ) → start ≤ j → j < i + 1 → IsUserAt sums j k → ⊥
no_user_more sums start k i item l at none h j s b u = elim (cases_lt j i) [
  | inl below ↦ h j s below u
  | inr above ↦
      let is : j ≡ i = omega arith in
      let w : IsUserAt sums i k = subst (λ n. IsUserAt sums n k) is u in
      none (subst (λ e. IsMarked e k) (entry_is sums i k item l at w) w.uses)
]

-- none of all
pub no_user_all : (sums : List Sums) (start k i : ℕ) → length sums ≤ i → ((j : ℕ) → start ≤ j → j < i → IsUserAt sums j k → ⊥) → (j : ℕ) → start ≤ j → IsUserAt sums j k → ⊥
no_user_all sums start k i l h j s u = h j s (let b = slice_get_within sums j u.entry u.is in omega (arith, b, l)) u

-- two operators use the class exactly where one after the first does
pub two_users : (sums : List Sums) (k i : ℕ) → IsFirstUser sums 0 k (Some i) → (o : Option ℕ) → IsFirstUser sums (i + 1) k o → (is_some o ≡ true → HasTwoUsers sums k) × (HasTwoUsers sums k → is_some o ≡ true)
two_users sums k i first None none = (
  λ e. cc,
  λ two. elim (cases_lt two.first i) [
    | inl before ↦ absurd (first.3 two.first (omega arith) before two.uses_first)
    | inr after ↦ absurd (none two.second (let b = two.before in omega (arith, b, after)) two.uses_second)
  ],
)
two_users sums k i first (Some j) later = (
  λ e. record { first = i; second = j; before = let b = later.0 in omega (arith, b); uses_first = first.2; uses_second = later.2 },
  λ two. refl,
)

-- one more of a list that is not so
pub none_more : (P : Sums → Type 0) (sums : List Sums) (i : ℕ) (item : Sums) → i < length sums → item ≡ get_or sums i item → (P item → ⊥)
    → ((j : ℕ) (e : Sums) → j < i → slice_get sums j ≡ Some e → P e → ⊥) → (j : ℕ) (e : Sums) → j < i + 1 → slice_get sums j ≡ Some e → P e → ⊥
none_more P sums i item l at none h j e b is p = elim (cases_lt j i) [
  | inl below ↦ h j e below is p
  | inr above ↦
      let same : j ≡ i = omega (arith, b, above) in
      let there : Some e ≡ Some (get_or sums i item) = sym (subst (λ n. slice_get sums n ≡ Some e) same is) ∙ slice_get-get_or sums i item l in
      let one : e ≡ get_or sums i item = cc in
      none (subst P (one ∙ sym at) p)
]
