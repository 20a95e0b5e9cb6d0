-- Answers leave less open.
use Rattle.std.proofs.Common.{◌≡◌, ℕ, zero, suc, ◌<◌, ◌≤◌, Bool, true, false, ◌&&◌, ◌||◌, length, refl, sym, ap, ◌∙◌, subst, inl, inr, arith, Contains}
use Rattle.std.proofs.lemmas.Bool.{cases_lt, eqb-true, eq-eqb, or_cases, and_parts, and_from, or_left, or_right, or_from, or_parts, not-true, not_from_true, not_from_false, false_from_ne_true, both_ways}
use Rattle.std.proofs.lemmas.List.Folds.{Any-from_list_any, list_any-from_Any}
use Rattle.fvn_forms.specs.InOrder.{one_if}
use Rattle.fvn_combine_nodes.specs.States.{IsNaming, class_of, is_same, is_apart, is_open, sum_below, open_pairs}
use Rattle.fvn_combine_nodes.specs.declared.state.State.{State}

-- sums of numbers that are less
sum_below-le : (f g : ℕ → ℕ) (n : ℕ) → ((k : ℕ) → k < n → f k ≤ g k) → sum_below f n ≤ sum_below g n
sum_below-le f g zero h = omega arith
sum_below-le f g (suc n) h =
    let a = h n (omega arith) in
    let b = sum_below-le f g n (λ k l. h k (omega arith)) in
    omega arith

sum_below-lt : (f g : ℕ → ℕ) (n : ℕ) → ((k : ℕ) → k < n → f k ≤ g k) → (i : ℕ) → i < n → f i < g i → sum_below f n < sum_below g n
sum_below-lt f g zero h i l e = absurd (omega arith)
sum_below-lt f g (suc n) h i l e = elim (cases_lt i n) [
  | inl m ↦
      let a = h n (omega arith) in
      let b = sum_below-lt f g n (λ k p. h k (omega arith)) i m e in
      omega arith
  | inr m ↦
      let at : i ≡ n = omega arith in
      let a : f n < g n = subst (λ k. f k < g k) at e in
      let b = sum_below-le f g n (λ k p. h k (omega arith)) in
      omega arith
]

one_if-le : (a b : Bool) → (a ≡ true → b ≡ true) → one_if a ≤ one_if b
one_if-le true b h = let e = ap one_if (h refl) in omega arith
one_if-le false b h = omega arith

one_if-lt : (a b : Bool) → a ≡ false → b ≡ true → one_if a < one_if b
one_if-lt a b e f = let p = ap one_if e in let q = ap one_if f in omega arith

-- the second state has in one class what the first has, and keeps apart what the first keeps apart
module _ (s r : State) (whole : length r.names ≡ length s.names) (coarser : (k : ℕ) → k < length s.names → class_of r (class_of s k) ≡ class_of r k) (naming : IsNaming s) (kept : (p : ℕ × ℕ) → Contains s.apart p → Contains r.apart p) where
  same_more : (k l : ℕ) → k < length s.names → l < length s.names → is_same s k l ≡ true → is_same r k l ≡ true
  same_more k l m n e = eq-eqb (class_of r k) (class_of r l) (sym (coarser k m) ∙ ap (class_of r) (eqb-true (class_of s k) (class_of s l) e) ∙ coarser l n)

  apart_more : (k l : ℕ) → k < length s.names → l < length s.names → is_apart s k l ≡ true → is_apart r k l ≡ true
  apart_more k l m n e =
      let test = λ (s : State) (p : ℕ × ℕ). (is_same s p.0 k && is_same s p.1 l) || (is_same s p.0 l && is_same s p.1 k) in
      let found = Any-from_list_any (test s) s.apart e in
      let p = found.1 in
      let within : (p.0 < length s.names) × (p.1 < length s.names) = subst (λ q. (q.0 < length s.names) × (q.1 < length s.names)) found.3 (naming.kept found.0 p found.2) in
      let there = kept p (found.0, found.2, found.3) in
      let passes : test r p ≡ true = elim (or_cases (is_same s p.0 k && is_same s p.1 l) (is_same s p.0 l && is_same s p.1 k) found.4) [
        | inl t ↦
            let both = and_parts (is_same s p.0 k) (is_same s p.1 l) t in
            or_left (is_same r p.0 k && is_same r p.1 l) (is_same r p.0 l && is_same r p.1 k) (and_from (is_same r p.0 k) (is_same r p.1 l) (same_more p.0 k within.0 m both.0) (same_more p.1 l within.1 n both.1))
        | inr t ↦
            let both = and_parts (is_same s p.0 l) (is_same s p.1 k) t in
            or_right (is_same r p.0 k && is_same r p.1 l) (is_same r p.0 l && is_same r p.1 k) (and_from (is_same r p.0 l) (is_same r p.1 k) (same_more p.0 l within.0 n both.0) (same_more p.1 k within.1 m both.1))
      ] in
      list_any-from_Any (test r) r.apart (there.0, p, there.1, there.2, passes)

  open_less : (k l : ℕ) → k < length s.names → l < length s.names → is_open r k l ≡ true → is_open s k l ≡ true
  open_less k l m n e =
      let parts = or_parts (is_same r k l) (is_apart r k l) (not-true (is_same r k l || is_apart r k l) e) in
      not_from_false (is_same s k l || is_apart s k l)
      (
      or_from (is_same s k l) (is_apart s k l) (false_from_ne_true (is_same s k l) (λ t. both_ways (is_same r k l) parts.0 (same_more k l m n t)))
      (false_from_ne_true (is_apart s k l) (λ t. both_ways (is_apart r k l) parts.1 (apart_more k l m n t)))
      )

  -- one pair is no longer open
  pub open_falls : (i j : ℕ) → i < length s.names → j < length s.names → is_open s i j ≡ true → is_open r i j ≡ false → open_pairs r < open_pairs s
  open_falls i j l m was now =
      let n = length s.names in
      let f = λ (k h : ℕ). one_if (is_open r k h) in
      let g = λ (k h : ℕ). one_if (is_open s k h) in
      let cell = λ (k : ℕ) (a : k < n) (h : ℕ) (b : h < n). one_if-le (is_open r k h) (is_open s k h) (open_less k h a b) in
      let row : sum_below (f i) n < sum_below (g i) n = sum_below-lt (f i) (g i) n (cell i l) j m (one_if-lt (is_open r i j) (is_open s i j) now was) in
      let less : sum_below (λ k. sum_below (f k) n) n < sum_below (λ k. sum_below (g k) n) n = sum_below-lt (λ k. sum_below (f k) n) (λ k. sum_below (g k) n) n (λ k a. sum_below-le (f k) (g k) n (cell k a)) i l row in
      subst (λ c. sum_below (λ k. sum_below (f k) c) c < sum_below (λ k. sum_below (g k) n) n) (sym whole) less

-- a pair in one class is not open, nor is one that is kept apart
pub same_not_open : (s : State) (i j : ℕ) → class_of s i ≡ class_of s j → is_open s i j ≡ false
same_not_open s i j e = not_from_true (is_same s i j || is_apart s i j) (or_left (is_same s i j) (is_apart s i j) (eq-eqb (class_of s i) (class_of s j) e))

pub apart_not_open : (s : State) (i j : ℕ) → Contains s.apart (i, j) → is_open s i j ≡ false
apart_not_open s i j c =
    let test = λ (p : ℕ × ℕ). (is_same s p.0 i && is_same s p.1 j) || (is_same s p.0 j && is_same s p.1 i) in
    let itself = λ (k : ℕ). eq-eqb (class_of s k) (class_of s k) refl in
    let passes : test (i, j) ≡ true = or_left (is_same s i i && is_same s j j) (is_same s i j && is_same s j i) (and_from (is_same s i i) (is_same s j j) (itself i) (itself j)) in
    not_from_true (is_same s i j || is_apart s i j) (or_right (is_same s i j) (is_apart s i j) (list_any-from_Any test s.apart (c.0, (i, j), c.1, c.2, passes)))
