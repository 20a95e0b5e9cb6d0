-- Sums and products that stop at the greatest number.
use Rattle.std.proofs.Common.{◌≡◌, ◌≤◌, ◌<◌, ◌+◌, ◌*◌, ◌-◌, ◌^◌, ◌⊎◌, ℕ, zero, suc, min, sym, ap, ◌∙◌, inl, inr, arith}
use Rattle.std.proofs.lemmas.Bool.{cases_lt}
use Rattle.std.proofs.Math.Nat.{min-eq_left, min-eq_right, le-mul_of_pos_right, mul-add, mul_assoc}
use Rattle.fvn_weights.specs.declared.limits.TheConstants.{MOST}
use Rattle.fvn_weights.specs.inner.Numbers.{capped}

module _ (m : ℕ) where
  small : (a : ℕ) → a ≤ m → min a m ≡ a
  small a h = min-eq_left h

  great : (a : ℕ) → m ≤ a → min a m ≡ m
  great a h = min-eq_right h

  stops_twice : (a : ℕ) → min (min a m) m ≡ min a m
  stops_twice a = elim (cases_lt m a) as (λ _. min (min a m) m ≡ min a m) [
    | inl high ↦ ap (λ z. min z m) (great a (omega (arith, high))) ∙ great m (omega arith) ∙ sym (great a (omega (arith, high)))
    | inr low ↦ ap (λ z. min z m) (small a low)
  ]

  -- a sum stops where its first part does
  sum_stops : (a b : ℕ) → min (min a m + b) m ≡ min (a + b) m
  sum_stops a b = elim (cases_lt m a) as (λ _. min (min a m + b) m ≡ min (a + b) m) [
    | inl high ↦ ap (λ z. min (z + b) m) (great a (omega (arith, high))) ∙ great (m + b) (omega arith) ∙ sym (great (a + b) (omega (arith, high)))
    | inr low ↦ ap (λ z. min (z + b) m) (small a low)
  ]

  at_least : (x y : ℕ) → 1 ≤ y → x ≤ x * y
  at_least x y h = le-mul_of_pos_right x h

  zero_right : (k : ℕ) → k * 0 ≡ 0
  zero_right k = omega arith

  -- a product stops where its first factor does, but for a factor zero
  product_stops : (a n : ℕ) → min (min a m * n) m ≡ min (a * n) m
  product_stops a zero = ap (λ z. min z m) (zero_right (min a m) ∙ sym (zero_right a))
  product_stops a (suc n) = elim (cases_lt m a) as (λ _. min (min a m * suc n) m ≡ min (a * suc n) m) [
    | inl high ↦
        ap (λ z. min (z * suc n) m) (great a (omega (arith, high)))
        ∙ great (m * suc n) (at_least m (suc n) (omega arith))
        ∙ sym (great (a * suc n) (let q = at_least a (suc n) (omega arith) in omega (arith, high, q)))
    | inr low ↦ ap (λ z. min (z * suc n) m) (small a low)
  ]

abbrev top : ℕ
top = 2 ^ 64 - 1

pub capped_twice : (a : ℕ) → capped (capped a) ≡ capped a
capped_twice a = stops_twice top a

capped_sum : (a b : ℕ) → capped (capped a + b) ≡ capped (a + b)
capped_sum a b = sum_stops top a b

capped_product : (a n : ℕ) → capped (capped a * n) ≡ capped (a * n)
capped_product a n = product_stops top a n

-- numbers that stop alike, with the same behind them
left_alike : (a b n : ℕ) → capped a ≡ capped b → capped (a + n) ≡ capped (b + n)
left_alike a b n e = sym (capped_sum a n) ∙ ap (λ z. capped (z + n)) e ∙ capped_sum b n

turned : (a b : ℕ) → a + b ≡ b + a
turned a b = omega arith

-- and with the same before them
right_alike : (n a b : ℕ) → capped a ≡ capped b → capped (n + a) ≡ capped (n + b)
right_alike n a b e = ap capped (turned n a) ∙ left_alike a b n e ∙ ap capped (turned b n)

-- a head is added, and then its arguments, k times
pub head_more : (first begun last k own rest : ℕ) → begun ≡ capped (first + capped (k * own)) → capped last ≡ capped (begun + k * rest) → capped last ≡ capped (first + k * (own + rest))
head_more first begun last k own rest is e =
    let split : k * (own + rest) ≡ k * own + k * rest = mul-add k own rest in
    let whole : (first + k * own) + k * rest ≡ first + k * (own + rest) = omega arith in
    e
    ∙ ap (λ z. capped (z + k * rest)) is
    ∙ capped_sum (first + capped (k * own)) (k * rest)
    ∙ left_alike (first + capped (k * own)) (first + k * own) (k * rest) (right_alike first (capped (k * own)) (k * own) (capped_twice (k * own)))
    ∙ ap capped whole

-- one argument more is added, k times what it counts
pub argument_more : (first before after k so_far many count one : ℕ) → many ≡ capped (k * count) → capped before ≡ capped (first + k * so_far) → capped after ≡ capped (before + many * one) →
    capped after ≡ capped (first + k * (so_far + count * one))
argument_more first before after k so_far many count one is e f =
    let split : k * (so_far + count * one) ≡ k * so_far + k * (count * one) = mul-add k so_far (count * one) in
    let moved : k * count * one ≡ k * (count * one) = mul_assoc k count one in
    let whole : (first + k * so_far) + k * count * one ≡ first + k * (so_far + count * one) = omega arith in
    f
    ∙ left_alike before (first + k * so_far) (many * one) e
    ∙ right_alike (first + k * so_far) (many * one) (k * count * one) (ap (λ z. capped (z * one)) is ∙ capped_product (k * count) one)
    ∙ ap capped whole

-- what is over the greatest number that is compared is seen after the stop
pub over_alike : (a b : ℕ) → capped a ≡ capped b → MOST < a → MOST < b
over_alike a b e h = elim (cases_lt top b) as (λ _. MOST < b) [
  | inl high ↦ omega (arith, high)
  | inr low ↦ from (cases_lt top a) low
]
  where
    from : (top < a) ⊎ (a ≤ top) → b ≤ top → MOST < b
    from (inl high) low =
        let p : min a top ≡ top = great top a (omega (arith, high)) in
        let q : min b top ≡ b = small top b low in
        let same : top ≡ b = sym p ∙ e ∙ q in omega (arith, same)
    from (inr less) low =
        let p : min a top ≡ a = small top a less in
        let q : min b top ≡ b = small top b low in
        let same : a ≡ b = sym p ∙ e ∙ q in omega (arith, same, h)

-- what can be compared is exact
pub small_alike : (a b : ℕ) → capped a ≡ capped b → b ≤ MOST → a ≡ b
small_alike a b e h = elim (cases_lt top a) as (λ _. a ≡ b) [
  | inl high ↦
      let p : min a top ≡ top = great top a (omega (arith, high)) in
      let q : min b top ≡ b = small top b (omega (arith, h)) in
      let same : top ≡ b = sym p ∙ e ∙ q in absurd (omega (arith, same, h))
  | inr less ↦
      let p : min a top ≡ a = small top a less in
      let q : min b top ≡ b = small top b (omega (arith, h)) in sym p ∙ e ∙ q
]
