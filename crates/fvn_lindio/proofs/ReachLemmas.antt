-- Bounds on the values of a list of points.
use Rattle.std.proofs.Common.{◌≡◌, ℕ, ℤ, ◌+◌, ◌<◌, ◌≤◌, List, length, get_or, take, subst, arith}
use Rattle.std.specs.List.{All}
use Rattle.std.proofs.lemmas.List.{take_all}
use Rattle.std.proofs.lemmas.List.Elements.{All-more, All-weaker}
use Rattle.fvn_lindio.specs.declared.level.Point.{Point}

module _ (f : ℤ → ℕ) (points : List Point) (i : ℕ) where
  pub reach_more : (p : Point) (m n : ℕ) → i < length points → p ≡ get_or points i p → m ≤ n → f p.value ≤ n → All (λ p. f p.value ≤ m) (take i points) → All (λ p. f p.value ≤ n) (take (i + 1) points)
  reach_more p m n l e h k all = All-more (λ p. f p.value ≤ n) points i p l (All-weaker (λ p. f p.value ≤ m) (λ p. f p.value ≤ n) (λ q b. omega (arith, b, h)) (take i points) all) (subst (λ q. f q.value ≤ n) e k)

  pub reach_all : (n : ℕ) → length points ≤ i → All (λ p. f p.value ≤ n) (take i points) → All (λ p. f p.value ≤ n) points
  reach_all n l h = subst (All (λ p. f p.value ≤ n)) (take_all i points l) h
