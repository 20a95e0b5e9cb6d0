-- Laws of minimal solutions: what they tell of all solutions.
use Rattle.std.specs.Prelude.{◌≡◌, ℕ, ◌*◌, ◌↔◌, ℤ, List, [], ◌∷◌, length, map, replicate, Contains}
use Rattle.fvn_lindio.specs.Vectors.{IsAtOrBelow, IsNonZero, add}
use Rattle.fvn_lindio.specs.Systems.{Solves, IsMinimal}

-- each vector so many times, all together; of so many columns
abbrev pub combination : ℕ → List ℕ → List (List ℕ) → List ℕ
combination columns [] list = replicate columns 0
combination columns (n ∷ times) [] = replicate columns 0
combination columns (n ∷ times) (v ∷ list) = add (map (λ a. n * a) v) (combination columns times list)

-- below every solution other than zero stands a minimal one
abbrev pub MinimalBelow : Type 0
MinimalBelow =
    (columns : ℕ) (rows : List (List ℤ)) (x : List ℕ) → Solves columns rows x → IsNonZero x
    → (m : List ℕ) × IsMinimal columns rows m × IsAtOrBelow m x

-- every solution is a sum of the minimal ones, each taken so many times
abbrev pub SumOfMinimal : Type 0
SumOfMinimal =
    (columns : ℕ) (rows : List (List ℤ)) (list : List (List ℕ))
    → ((v : List ℕ) → Contains list v ↔ IsMinimal columns rows v)
    → (x : List ℕ) → Solves columns rows x
    → (times : List ℕ) × (length times ≡ length list) × (combination columns times list ≡ x)
