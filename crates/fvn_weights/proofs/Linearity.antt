-- The value of a term is a linear form over its variables.
use Rattle.std.proofs.Common.{◌≡◌, ◌+◌, ◌*◌, ℕ, refl, sym, ap, ◌∙◌, inl, inr, arith}
use Rattle.std.proofs.Math.Nat.{mul-add, mul_assoc, mul_comm}
use Rattle.fvn_terms.specs.declared.plain.Var.{Var}
use Rattle.fvn_terms.specs.declared.plain.OpId.{OpId}
use Rattle.fvn_terms.specs.Term.{Term, Terms, var, app, none, more}
use Rattle.fvn_terms.specs.Substitution.{Substitution, apply, apply_all, Occurs, OccursAmong}
use Rattle.fvn_weights.specs.Values.{Linear, value, value_from, without_constants}

mutual
  -- what gives each variable of a term one value gives the term one
  pub value_same : (w : Linear) (a b : Var → ℕ) (t : Term) → ((x : Var) → Occurs x t → a x ≡ b x) → value w a t ≡ value w b t
  value_same w a b (var x) h = h x refl
  value_same w a b (app f ts) h = ap (λ n. w.constant f + n) (from_same w a b f 0 ts h)

  from_same : (w : Linear) (a b : Var → ℕ) (f : OpId) (i : ℕ) (ts : Terms) → ((x : Var) → OccursAmong x ts → a x ≡ b x) → value_from w a f i ts ≡ value_from w b f i ts
  from_same w a b f i none h = refl
  from_same w a b f i (more t ts) h =
      ap (λ n. w.coefficient f i * n + value_from w a f (i + 1) ts) (value_same w a b t (λ x o. h x (inl o)))
      ∙ ap (λ n. w.coefficient f i * value w b t + n) (from_same w a b f (i + 1) ts (λ x o. h x (inr o)))

mutual
  -- the value at an instance is that at the values
  pub value_apply : (w : Linear) (at : Var → ℕ) (s : Substitution) (t : Term) → value w at (apply s t) ≡ value w (λ x. value w at (s x)) t
  value_apply w at s (var x) = refl
  value_apply w at s (app f ts) = ap (λ n. w.constant f + n) (from_apply w at s f 0 ts)

  from_apply : (w : Linear) (at : Var → ℕ) (s : Substitution) (f : OpId) (i : ℕ) (ts : Terms) → value_from w at f i (apply_all s ts) ≡ value_from w (λ x. value w at (s x)) f i ts
  from_apply w at s f i none = refl
  from_apply w at s f i (more t ts) =
      ap (λ n. w.coefficient f i * n + value_from w at f (i + 1) (apply_all s ts)) (value_apply w at s t)
      ∙ ap (λ n. w.coefficient f i * value w (λ x. value w at (s x)) t + n) (from_apply w at s f (i + 1) ts)

-- k (c b) is c (k b)
turned : (k c b : ℕ) → k * (c * b) ≡ c * (k * b)
turned k c b = sym (mul_assoc k c b) ∙ ap (λ n. n * b) (mul_comm k c) ∙ mul_assoc c k b

-- a head over a sum
over_sum : (c a b k : ℕ) → c + (a + k * b) ≡ (c + a) + k * (0 + b)
over_sum c a b k = omega arith

-- one argument more
argument : (c k p q r s : ℕ) → c * (p + k * q) + (r + k * s) ≡ (c * p + r) + k * (c * q + s)
argument c k p q r s =
    let left : c * (p + k * q) ≡ c * p + c * (k * q) = mul-add c p (k * q) in
    let right : k * (c * q + s) ≡ k * (c * q) + k * s = mul-add k (c * q) s in
    let same : k * (c * q) ≡ c * (k * q) = turned k c q in
    omega arith

mutual
  -- the value is additive, and what is added k times counts k times, without constants
  pub value_sum : (w : Linear) (a b : Var → ℕ) (k : ℕ) (t : Term) → value w (λ x. a x + k * b x) t ≡ value w a t + k * value (without_constants w) b t
  value_sum w a b k (var x) = refl
  value_sum w a b k (app f ts) =
      ap (λ n. w.constant f + n) (from_sum w a b k f 0 ts)
      ∙ over_sum (w.constant f) (value_from w a f 0 ts) (value_from (without_constants w) b f 0 ts) k

  from_sum : (w : Linear) (a b : Var → ℕ) (k : ℕ) (f : OpId) (i : ℕ) (ts : Terms) →
      value_from w (λ x. a x + k * b x) f i ts ≡ value_from w a f i ts + k * value_from (without_constants w) b f i ts
  from_sum w a b k f i none = omega arith
  from_sum w a b k f i (more t ts) =
      ap (λ n. w.coefficient f i * n + value_from w (λ x. a x + k * b x) f (i + 1) ts) (value_sum w a b k t)
      ∙ ap (λ n. w.coefficient f i * (value w a t + k * value (without_constants w) b t) + n) (from_sum w a b k f (i + 1) ts)
      ∙ argument (w.coefficient f i) k (value w a t) (value (without_constants w) b t) (value_from w a f (i + 1) ts) (value_from (without_constants w) b f (i + 1) ts)
