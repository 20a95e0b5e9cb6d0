-- Lists of numbers in lexicographic order.
use Rattle.std.specs.Prelude.{◌≡◌, ℕ, ◌<◌, ◌⊎◌, List, [], ◌∷◌}

-- the first list stands before the second: it is a proper front of it, or has less at the first place in which they differ
abbrev pub IsBefore : List ℕ → List ℕ → Type 0
IsBefore [] [] = ⊥
IsBefore [] (y ∷ ys) = Unit {0}
IsBefore (x ∷ xs) [] = ⊥
IsBefore (x ∷ xs) (y ∷ ys) = (x < y) ⊎ ((x ≡ y) × IsBefore xs ys)

-- x has the property, and nothing that comes before it has
abbrev pub IsFirst : {A : Type 0} → (A → A → Type 0) → (A → Type 0) → A → Type 0
IsFirst {A} Before P x = P x × ((y : A) → Before y x → P y → ⊥)
