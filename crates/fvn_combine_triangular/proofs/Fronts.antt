-- Lists that are made from the front, one element for each number below a bound, and searches among numbers.
use Rattle.std.proofs.Common.{◌≡◌, ℕ, ◌+◌, ◌<◌, List, [], ◌∷◌, ◌++◌, length, slice_index_or, sym, ap, ◌∙◌, subst, inl, inr, arith}
use Rattle.std.proofs.lemmas.Bool.{cases_lt}
use Rattle.std.proofs.lemmas.List.{get_or_append_left, get_or_push, length-append}

-- none below one more
pub none_more : (P : ℕ → Type 0) (i : ℕ) → ((j : ℕ) → j < i → P j → ⊥) → (P i → ⊥) → (j : ℕ) → j < i + 1 → P j → ⊥
none_more P i none here j l p = elim (cases_lt j i) [
  | inl below ↦ none j below p
  | inr above ↦
      let e : j ≡ i = omega (arith, l, above) in
      here (subst P e p)
]

module _ {X : Type 0} (other : X) (P : ℕ → X → Type 0) where
  -- one element for each number below this, which fits it
  pub record AreFront (n : ℕ) (xs : List X) : Type 0 where
    pub as_many : length xs ≡ n
    pub each : (k : ℕ) → k < n → P k (slice_index_or xs k other)

  pub no_front : (xs : List X) → xs ≡ [] → AreFront 0 xs
  no_front xs none = record { as_many = ap length none; each = λ k l. absurd (omega (arith, l)) }

  pub front_more : (n : ℕ) (xs now : List X) (x : X) → AreFront n xs → now ≡ xs ++ x ∷ [] → P n x → AreFront (n + 1) now
  front_more n xs now x h is p = subst (AreFront (n + 1)) (sym is) record {
    as_many = length-append xs (x ∷ []) ∙ ap (λ m. m + 1) h.as_many;
    each = λ k l. elim (cases_lt k n) [
      | inl below ↦ subst (P k) (sym (get_or_append_left xs (x ∷ []) other k (let m = h.as_many in omega (arith, below, m)))) (h.each k below)
      | inr above ↦
          let e : k ≡ n = omega (arith, l, above) in
          subst (P k) (sym (get_or_push xs x other k (h.as_many ∙ sym e))) (subst (λ m. P m x) (sym e) p)
    ];
  }
