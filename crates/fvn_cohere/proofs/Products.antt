-- Products of counts that stop at the greatest number.
use Rattle.std.proofs.Common.{◌≡◌, ◌≤◌, ◌<◌, ◌+◌, ◌*◌, ◌-◌, ◌^◌, ◌↔◌, ℕ, zero, suc, min, List, [], ◌∷◌, ◌++◌, map, length, take, get_or, sym, ap, subst, ◌∙◌, ◌⊎◌, inl, inr, arith}
use Rattle.std.proofs.lemmas.Bool.{cases_lt}
use Rattle.std.proofs.lemmas.List.{map_more}
use Rattle.std.proofs.Math.Nat.{min-le_left, min-eq_left, min-eq_right, le-mul_of_pos_right, mul_comm, mul_assoc}
use Rattle.fvn_rewrite_laws.specs.Choices.{product}
use Rattle.fvn_cohere.specs.inner.Capped.{capped}

product-push : (ns : List ℕ) (n : ℕ) → product (ns ++ n ∷ []) ≡ product ns * n
product-push [] n = omega arith
product-push (m ∷ ns) n = ap (λ p. m * p) (product-push ns n) ∙ sym (mul_assoc m (product ns) n)

module _ (m : ℕ) (some : 1 ≤ m) where
  small : (a : ℕ) → a ≤ m → min a m ≡ a
  small a h = min-eq_left h

  great : (a : ℕ) → m ≤ a → min a m ≡ m
  great a h = min-eq_right h

  -- a product stops where one of its factors does, but for a factor zero
  stops : (a n : ℕ) → min (min a m * min n m) m ≡ min (a * n) m
  stops zero n = ap (λ z. min (z * min n m) m) (small 0 (omega arith)) ∙ ap (λ z. min z m) (zero_left (min n m) ∙ sym (zero_left n)) where
    zero_left : (k : ℕ) → 0 * k ≡ 0
    zero_left k = omega arith
  stops (suc a) zero = ap (λ z. min (min (suc a) m * z) m) (small 0 (omega arith)) ∙ ap (λ z. min z m) (zero_right (min (suc a) m) ∙ sym (zero_right (suc a))) where
    zero_right : (k : ℕ) → k * 0 ≡ 0
    zero_right k = omega arith
  stops (suc a) (suc n) = elim (cases_lt m (suc a)) as (λ _. min (min (suc a) m * min (suc n) m) m ≡ min (suc a * suc n) m) [
    | inl high ↦
        ap (λ z. min (z * min (suc n) m) m) (great (suc a) (omega (arith, high)))
        ∙ great (m * min (suc n) m) (at_least_left m (min (suc n) m) (positive (suc n) (omega arith)))
        ∙ sym (great (suc a * suc n) (let q = at_least_left (suc a) (suc n) (omega arith) in omega (arith, high, q)))
    | inr low ↦ ap (λ z. min (z * min (suc n) m) m) (small (suc a) low) ∙ right (cases_lt m (suc n))
  ]
    where
      at_least_left : (x y : ℕ) → 1 ≤ y → x ≤ x * y
      at_least_left x y h = le-mul_of_pos_right x h

      at_least_right : (x y : ℕ) → 1 ≤ x → y ≤ x * y
      at_least_right x y h = subst (λ z. y ≤ z) (mul_comm y x) (le-mul_of_pos_right y h)

      positive : (k : ℕ) → 1 ≤ k → 1 ≤ min k m
      positive k h = elim (cases_lt m k) as (λ _. 1 ≤ min k m) [
        | inl g ↦ subst (λ z. 1 ≤ z) (sym (great k (omega (arith, g)))) some
        | inr l ↦ subst (λ z. 1 ≤ z) (sym (small k l)) h
      ]

      right : (m < suc n) ⊎ (suc n ≤ m) → min (suc a * min (suc n) m) m ≡ min (suc a * suc n) m
      right (inl high) =
          ap (λ z. min (suc a * z) m) (great (suc n) (omega (arith, high)))
          ∙ great (suc a * m) (at_least_right (suc a) m (omega arith))
          ∙ sym (great (suc a * suc n) (let q = at_least_right (suc a) (suc n) (omega arith) in omega (arith, high, q)))
      right (inr low) = ap (λ z. min (suc a * z) m) (small (suc n) low)

abbrev top : ℕ
top = 2 ^ 64 - 1

-- one more factor
pub product-step : {A : Type 0} (n : A → ℕ) (xs : List A) (i : ℕ) (x : A) (so_far : ℕ) → i < length xs → so_far ≡ capped (product (map n (take i xs))) → capped (so_far * capped (n (get_or xs i x))) ≡ capped (product (map n (take (i + 1) xs)))
product-step n xs i x so_far within e =
    ap (λ p. capped (p * capped (n (get_or xs i x)))) e
    ∙ stops top (omega arith) (product (map n (take i xs))) (n (get_or xs i x))
    ∙ ap capped (sym (product-push (map n (take i xs)) (n (get_or xs i x))))
    ∙ ap (λ l. capped (product l)) (sym (map_more n xs i x within))

-- one more factor that is a sum
pub sum-step : {A : Type 0} (a b : A → ℕ) (xs : List A) (i : ℕ) (x : A) (so_far k l : ℕ) → i < length xs → k ≡ a (get_or xs i x) → l ≡ b (get_or xs i x) → so_far ≡ capped (product (map (λ y. a y + b y) (take i xs))) → capped (so_far * capped (k + l)) ≡ capped (product (map (λ y. a y + b y) (take (i + 1) xs)))
sum-step a b xs i x so_far k l within p q e =
    ap (λ m. capped (so_far * capped (m + l))) p
    ∙ ap (λ m. capped (so_far * capped (a (get_or xs i x) + m))) q
    ∙ product-step (λ y. a y + b y) xs i x so_far within e

-- within a limit below the greatest number, or not
pub within_capped : (p limit : ℕ) → limit < 2 ^ 64 - 1 → (capped p ≤ limit) ↔ (p ≤ limit)
within_capped p limit small_limit = (there_from (cases_lt top p), λ h. let q = min-le_left p top in omega (arith, h, q)) where
  there_from : (top < p) ⊎ (p ≤ top) → capped p ≤ limit → p ≤ limit
  there_from (inl high) h = let q : min p top ≡ top = min-eq_right (omega (arith, high)) in absurd (omega (arith, h, q, small_limit))
  there_from (inr low) h = let q : min p top ≡ p = min-eq_left low in omega (arith, h, q)
