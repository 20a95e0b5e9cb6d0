-- Bits of words: which are set in a word that gains some, and which words lie within others.
use Rattle.std.proofs.Common.{◌≡◌, ℕ, zero, suc, ◌^◌, ◌<◌, min, max, bit_or, nat_eq, List, [], ◌∷◌, refl, sym, subst, ◌∙◌, ◌⊎◌, ◌↔◌, inl, inr, arith}
use Rattle.std.specs.Prelude.{bit_and, Contains, IsTrue}
use Rattle.std.specs.Int.{bit_at}
use Rattle.std.proofs.lemmas.Bool.{cases_eq, eqb-true, eq-eqb}
use Rattle.std.proofs.lemmas.Nat.Bits.{bit_at_and, bit_at_or, bit_at-lt, bit_at-zero, bit_at-pow_same, bit_at-pow_other, same_from_bits}
use Rattle.fvn_base.proofs.Membership.{contains_here, contains_later, contains_cases, contains_none}
use Rattle.fvn_cover_counts.specs.Marks.{Has, IsWithin}
use Rattle.fvn_cover_counts.specs.inner.Bits.{with_bit}

max_one : (x y : ℕ) → x < 2 → y ≡ 1 → max x y ≡ 1
max_one x y l e = omega (arith, l, e)

max_first : (x y : ℕ) → y ≡ 0 → max x y ≡ x
max_first x y e = omega (arith, e)

min_one : (x y : ℕ) → min x y ≡ 1 → y < 2 → y ≡ 1
min_one x y e l = omega (arith, e, l)

min_first : (x y : ℕ) → x < 2 → (x ≡ 1 → y ≡ 1) → min x y ≡ x
min_first zero y l h = omega arith
min_first (suc zero) y l h = let e = h refl in omega (arith, e)
min_first (suc (suc x)) y l h = absurd (omega (arith, l))

min_two : (x y : ℕ) → min x y ≡ 1 → x < 2 → x ≡ 1
min_two x y e l = omega (arith, e, l)

max_two : (x y : ℕ) → y < 2 → x ≡ 1 → max x y ≡ 1
max_two x y l e = omega (arith, l, e)

no_bit : (n : ℕ) → n ≡ 0 → n ≡ 1 → ⊥
no_bit n z o = omega (arith, z, o)

-- nothing is set in nothing
pub has_none : (b : ℕ) → Has 0 b → ⊥
has_none b h = no_bit (bit_at 0 b) (bit_at-zero b) h

-- a word with one bit more
pub has_with_bit : (k w b : ℕ) → Has (with_bit k w) b ↔ (Has w b ⊎ (k ≡ b))
has_with_bit k w b = go (cases_eq k b)
  where
    both : bit_at (bit_or w (2 ^ k)) b ≡ max (bit_at w b) (bit_at (2 ^ k) b)
    both = bit_at_or w (2 ^ k) b

    go : (k ≡ b) ⊎ (k ≡ b → ⊥) → Has (with_bit k w) b ↔ (Has w b ⊎ (k ≡ b))
    go (inl e) = (λ h. inr e, λ h. both ∙ max_one (bit_at w b) (bit_at (2 ^ k) b) (bit_at-lt w b) (subst (λ z. bit_at (2 ^ k) z ≡ 1) e (bit_at-pow_same k)))
    go (inr n) = (λ h. inl (sym same ∙ h), back)
      where
        same : bit_at (bit_or w (2 ^ k)) b ≡ bit_at w b
        same = both ∙ max_first (bit_at w b) (bit_at (2 ^ k) b) (bit_at-pow_other k b (λ z. n (sym z)))

        back : Has w b ⊎ (k ≡ b) → Has (with_bit k w) b
        back (inl h) = same ∙ h
        back (inr e) = absurd (n e)

module _ {A : Type 0} (P : A → Type 0) where
  -- some of the list has the property
  abbrev pub Among : List A → Type 0
  Among xs = (x : A) × Contains xs x × P x

  among_here : (x : A) (xs : List A) → P x → Among (x ∷ xs)
  among_here x xs p = (x, contains_here x xs, p)

  among_later : (x : A) (xs : List A) → Among xs → Among (x ∷ xs)
  among_later x xs k = (k.0, contains_later x xs k.0 k.1, k.2)

  among_cases : (x : A) (xs : List A) → Among (x ∷ xs) → P x ⊎ Among xs
  among_cases x xs k = go (contains_cases x xs k.0 k.1)
    where
      go : (x ≡ k.0) ⊎ Contains xs k.0 → P x ⊎ Among xs
      go (inl e) = inl (subst P (sym e) k.2)
      go (inr n) = inr (k.0, n, k.2)

  -- nothing is gained from no list
  pub gained_none : (H : Type 0) → H ↔ (H ⊎ Among [])
  gained_none H = (λ h. inl h, back)
    where
      back : H ⊎ Among [] → H
      back (inl h) = h
      back (inr k) = absurd (contains_none k.0 k.1)

  -- what is gained from the first and then from the others
  pub gained_more : (x : A) (xs : List A) (H M W : Type 0) → W ↔ (M ⊎ Among xs) → M ↔ (H ⊎ P x) → W ↔ (H ⊎ Among (x ∷ xs))
  gained_more x xs H M W whole one = (λ h. forth (whole.0 h), back)
    where
      first : H ⊎ P x → H ⊎ Among (x ∷ xs)
      first (inl h) = inl h
      first (inr p) = inr (among_here x xs p)

      forth : M ⊎ Among xs → H ⊎ Among (x ∷ xs)
      forth (inl m) = first (one.0 m)
      forth (inr k) = inr (among_later x xs k)

      late : P x ⊎ Among xs → W
      late (inl p) = whole.1 (inl (one.1 (inr p)))
      late (inr k) = whole.1 (inr k)

      back : H ⊎ Among (x ∷ xs) → W
      back (inl h) = whole.1 (inl (one.1 (inl h)))
      back (inr k) = late (among_cases x xs k)

-- one word lies within another where nothing of it is lost in both
pub within_words : (v w : ℕ) → IsTrue (nat_eq (bit_and v w) v) ↔ IsWithin v w
within_words v w = (forth, back)
  where
    forth : IsTrue (nat_eq (bit_and v w) v) → IsWithin v w
    forth t b h = min_one (bit_at v b) (bit_at w b) (sym (bit_at_and v w b) ∙ subst (λ n. bit_at n b ≡ 1) (sym (eqb-true (bit_and v w) v t)) h) (bit_at-lt w b)

    back : IsWithin v w → IsTrue (nat_eq (bit_and v w) v)
    back h = eq-eqb (bit_and v w) v (same_from_bits (bit_and v w) v (λ i. bit_at_and v w i ∙ min_first (bit_at v i) (bit_at w i) (bit_at-lt v i) (h i)))

-- what both words have is in each of them
pub and_within : (v w : ℕ) → IsWithin (bit_and v w) v × IsWithin (bit_and v w) w
and_within v w = (
  λ b h. min_two (bit_at v b) (bit_at w b) (sym (bit_at_and v w b) ∙ h) (bit_at-lt v b),
  λ b h. min_one (bit_at v b) (bit_at w b) (sym (bit_at_and v w b) ∙ h) (bit_at-lt w b),
)

-- what one of them has is in both together
pub or_within : (v w : ℕ) → IsWithin v (bit_or v w) × IsWithin w (bit_or v w)
or_within v w = (
  λ b h. bit_at_or v w b ∙ max_two (bit_at v b) (bit_at w b) (bit_at-lt w b) h,
  λ b h. bit_at_or v w b ∙ max_one (bit_at v b) (bit_at w b) (bit_at-lt v b) h,
)
