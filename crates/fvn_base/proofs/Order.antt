-- Lists of numbers in lexicographic order: of two of one length that differ one stands first, and the order is transitive.
use Rattle.std.proofs.Common.{◌≡◌, ℕ, ◌<◌, ◌⊎◌, List, [], ◌∷◌, length, refl, sym, ◌∙◌, inl, inr, arith}
use Rattle.std.proofs.lemmas.Bool.{cases_order}
use Rattle.fvn_base.specs.Order.{IsBefore}

pub before_else : (x y : List ℕ) → length x ≡ length y → (IsBefore x y → ⊥) → (x ≡ y → ⊥) → IsBefore y x
before_else [] [] h n m = absurd (m refl)
before_else [] (b ∷ y) h n m = absurd (omega arith)
before_else (a ∷ x) [] h n m = absurd (omega arith)
before_else (a ∷ x) (b ∷ y) h n m = go (cases_order a b) (before_else x y)
  where
    go : (a ≡ b) ⊎ ((a < b) ⊎ (b < a)) → (length x ≡ length y → (IsBefore x y → ⊥) → (x ≡ y → ⊥) → IsBefore y x) → IsBefore (b ∷ y) (a ∷ x)
    go (inr (inl l)) rest = absurd (n (inl l))
    go (inr (inr l)) rest = inl l
    go (inl e) rest = inr (sym e, rest (omega arith) (λ l. n (inr (e, l))) (λ f. m (cc)))

pub before_trans : (x y z : List ℕ) → IsBefore x y → IsBefore y z → IsBefore x z
before_trans [] [] z h k = absurd h
before_trans [] (b ∷ y) [] h k = absurd k
before_trans [] (b ∷ y) (c ∷ z) h k = tt
before_trans (a ∷ x) [] z h k = absurd h
before_trans (a ∷ x) (b ∷ y) [] h k = absurd k
before_trans (a ∷ x) (b ∷ y) (c ∷ z) h k = go h k (before_trans x y z)
  where
    go : (a < b) ⊎ ((a ≡ b) × IsBefore x y) → (b < c) ⊎ ((b ≡ c) × IsBefore y z) → (IsBefore x y → IsBefore y z → IsBefore x z) → (a < c) ⊎ ((a ≡ c) × IsBefore x z)
    go (inl l) (inl m) rest = inl (omega arith)
    go (inl l) (inr m) rest = inl (omega (arith, m.0))
    go (inr l) (inl m) rest = inl (omega (arith, l.0))
    go (inr l) (inr m) rest = inr (l.0 ∙ m.0, rest l.1 m.1)

pub before_irrefl : (x : List ℕ) → IsBefore x x → ⊥
before_irrefl [] h = h
before_irrefl (a ∷ x) (inl l) = omega arith
before_irrefl (a ∷ x) (inr l) = before_irrefl x l.1
