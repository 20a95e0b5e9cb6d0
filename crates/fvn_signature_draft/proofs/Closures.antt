-- One more pair makes the words of a closure gain what its upper sort reaches.
use Rattle.std.proofs.Common.{◌≡◌, ℕ, ◌^◌, ◌<◌, ◌≤◌, Bool, true, false, List, [], ◌∷◌, ◌++◌, map, length, get_or, nat_eq, refl, sym, subst, ◌∙◌, ◌⊎◌, ◌↔◌, inl, inr, arith, max, bit_or}
use Rattle.std.specs.List.{Contains, range_with_len}
use Rattle.std.specs.Prelude.{cond}
use Rattle.std.specs.Int.{bit_at}
use Rattle.std.proofs.lemmas.Bool.{cases_eq, eq-eqb, eqb-true}
use Rattle.std.proofs.lemmas.List.{length-map, get_or-map}
use Rattle.std.proofs.lemmas.List.FromFn.{length-map-range_with_len, get_or-map-range_with_len}
use Rattle.std.proofs.lemmas.List.Elements.{Contains-append_left, Contains-append_right, Contains-append_cases}
use Rattle.std.proofs.lemmas.Nat.Bits.{bit_at_or, bit_at-lt, bit_at-pow_same, bit_at-pow_other}
use Rattle.fvn_terms.specs.declared.plain.SortId.{SortId}
use Rattle.fvn_forms.specs.SortOrder.{sort_number, same_sort, reaches}
use Rattle.fvn_base.proofs.Membership.{contains_here, contains_later, contains_cases, contains_none}
use Rattle.fvn_forms.proofs.SortTests.{reaches-self, reaches-cases, reaches-trans, reaches-one, reaches-sound}
use Rattle.fvn_signature.specs.Words.{Has, IsClosure}
use Rattle.fvn_signature_draft.specs.inner.Words.{gaining}

-- more pairs lead further
pub reaches-more : (ps qs : List (SortId × SortId)) → ((s q : SortId) → Contains ps (s, q) → Contains qs (s, q)) → (s q : SortId) → reaches ps s q ≡ true → reaches qs s q ≡ true
reaches-more ps qs more s q h = reaches-sound (λ a b. reaches qs a b ≡ true) (reaches-self qs) (reaches-trans qs) ps (λ a b i. reaches-one qs a b (more a b i)) s q h

-- one pair more at the end
pub reaches-push : (ps : List (SortId × SortId)) (p : SortId × SortId) (s q : SortId) → reaches (ps ++ p ∷ []) s q ≡ true → (reaches ps s q ≡ true) ⊎ ((reaches ps s p.0 ≡ true) × (reaches ps p.1 q ≡ true))
reaches-push ps p s q h = reaches-cases p ps s q (reaches-more (ps ++ p ∷ []) (p ∷ ps) in_front s q h) where
  in_front : (a b : SortId) → Contains (ps ++ p ∷ []) (a, b) → Contains (p ∷ ps) (a, b)
  in_front a b i = elim (Contains-append_cases ps (p ∷ []) (a, b) i) [
    | inl j ↦ contains_later p ps (a, b) j
    | inr j ↦ elim (contains_cases p [] (a, b) j) [ inl e ↦ subst (Contains (p ∷ ps)) e (contains_here p ps) | inr k ↦ absurd (contains_none (a, b) k) ]
  ]

pub push-reaches : (ps : List (SortId × SortId)) (p : SortId × SortId) (s q : SortId) → (reaches ps s q ≡ true) ⊎ ((reaches ps s p.0 ≡ true) × (reaches ps p.1 q ≡ true)) → reaches (ps ++ p ∷ []) s q ≡ true
push-reaches ps p s q (inl h) = reaches-more ps (ps ++ p ∷ []) (λ a b i. Contains-append_left ps (p ∷ []) (a, b) i) s q h
push-reaches ps p s q (inr h) =
    let all : List (SortId × SortId) = ps ++ p ∷ [] in
    let more : (a b : SortId) → reaches ps a b ≡ true → reaches all a b ≡ true = reaches-more ps all (λ a b i. Contains-append_left ps (p ∷ []) (a, b) i) in
    let step : reaches all p.0 p.1 ≡ true = reaches-one all p.0 p.1 (Contains-append_right ps (p ∷ []) (p.0, p.1) (contains_here p [])) in
    reaches-trans all s p.0 q (more s p.0 h.0) (reaches-trans all p.0 p.1 q step (more p.1 q h.1))

-- a bit of a word that may gain
pub Has-or : (a b k : ℕ) → Has (bit_or a b) k ↔ (Has a k ⊎ Has b k)
Has-or a b k = (forth, back) where
  both : bit_at (bit_or a b) k ≡ max (bit_at a k) (bit_at b k)
  both = bit_at_or a b k

  forth : Has (bit_or a b) k → Has a k ⊎ Has b k
  forth h = go (cases_eq (bit_at a k) 1) where
    go : (bit_at a k ≡ 1) ⊎ (bit_at a k ≡ 1 → ⊥) → Has a k ⊎ Has b k
    go (inl e) = inl e
    go (inr n) = inr (let x = bit_at-lt a k in let y = bit_at-lt b k in let z : max (bit_at a k) (bit_at b k) ≡ 1 = sym both ∙ h in let m : bit_at a k ≡ 0 = zero_or (bit_at a k) x n in omega arith) where
      zero_or : (n : ℕ) → n < 2 → (n ≡ 1 → ⊥) → n ≡ 0
      zero_or n l h = omega arith

  back : Has a k ⊎ Has b k → Has (bit_or a b) k
  back (inl h) = let x = bit_at-lt a k in let y = bit_at-lt b k in both ∙ omega arith
  back (inr h) = let x = bit_at-lt a k in let y = bit_at-lt b k in both ∙ omega arith

pub Has-gaining : (k other word q : ℕ) → Has (gaining k other word) q ↔ (Has word q ⊎ (Has word k × Has other q))
Has-gaining k other word q = go (nat_eq (bit_at word k) 1) refl where
  go : (b : Bool) → nat_eq (bit_at word k) 1 ≡ b → Has (cond b (bit_or word other) word) q ↔ (Has word q ⊎ (Has word k × Has other q))
  go true e = (
    λ h. elim ((Has-or word other q).0 h) [ inl a ↦ inl a | inr b ↦ inr (eqb-true (bit_at word k) 1 e, b) ],
    λ h. (Has-or word other q).1 (elim h [ inl a ↦ inl a | inr b ↦ inr b.1 ]),
  )
  go false e = (
    λ h. inl h,
    λ h. elim h [ inl a ↦ a | inr b ↦ absurd (no (sym e ∙ eq-eqb (bit_at word k) 1 b.0)) ],
  ) where
    no : false ≡ true → ⊥
    no h = cc

pub IsClosure-none : (n : ℕ) → IsClosure n [] (map (λ k. 2 ^ k) (range_with_len 0 n))
unfolding reaches
IsClosure-none n = record { as_long = length-map-range_with_len (λ k. 2 ^ k) 0 n; exact = exact } where
  exact : (s q : ℕ) → s < n → q < 64 → Has (get_or (map (λ k. 2 ^ k) (range_with_len 0 n)) s 0) q ↔ (same_sort (sort_number s) (sort_number q) ≡ true)
  exact s q l m =
      let word : get_or (map (λ k. 2 ^ k) (range_with_len 0 n)) s 0 ≡ 2 ^ s = get_or-map-range_with_len (λ k. 2 ^ k) 0 n s s 0 l (omega arith) in
      rw word (go (cases_eq q s)) where
        go : (q ≡ s) ⊎ (q ≡ s → ⊥) → Has (2 ^ s) q ↔ (nat_eq s q ≡ true)
        go (inl e) = (λ h. eq-eqb s q (sym e), λ h. rw e (bit_at-pow_same s))
        go (inr ne) = (λ h. absurd (let z = bit_at-pow_other s q ne in omega arith), λ h. absurd (ne (sym (eqb-true s q h))))

pub IsClosure-push : (n : ℕ) (ps : List (SortId × SortId)) (p : SortId × SortId) (words : List ℕ) → p.0.0 < n → p.1.0 < n → n ≤ 64 → IsClosure n ps words → IsClosure n (ps ++ p ∷ []) (map (gaining p.0.0 (get_or words p.1.0 0)) words)
IsClosure-push n ps p words low high few h = record { as_long = length-map words (gaining p.0.0 (get_or words p.1.0 0)) ∙ h.as_long; exact = exact } where
  other : ℕ
  other = get_or words p.1.0 0

  exact : (s q : ℕ) → s < n → q < 64 → Has (get_or (map (gaining p.0.0 other) words) s 0) q ↔ (reaches (ps ++ p ∷ []) (sort_number s) (sort_number q) ≡ true)
  exact s q l m =
      let long : length words ≡ n = h.as_long in
      let within : s < length words = omega arith in
      let word : get_or (map (gaining p.0.0 other) words) s 0 ≡ gaining p.0.0 other (get_or words s 0) = get_or-map (gaining p.0.0 other) words s 0 0 within in
      let bit = Has-gaining p.0.0 other (get_or words s 0) q in
      let here = h.exact s q l m in
      let to_low = h.exact s p.0.0 l (omega arith) in
      let from_high = h.exact p.1.0 q high m in
      rw word (
        λ a. push-reaches ps p (sort_number s) (sort_number q) (elim (bit.0 a) [ inl b ↦ inl (here.0 b) | inr b ↦ inr (to_low.0 b.0, from_high.0 b.1) ]),
        λ a. bit.1 (elim (reaches-push ps p (sort_number s) (sort_number q) a) [ inl b ↦ inl (here.1 b) | inr b ↦ inr (to_low.1 b.0, from_high.1 b.1) ]),
      )
