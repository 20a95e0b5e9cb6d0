-- Vectors of numbers: a vector is the list of its components.
use Rattle.std.specs.Prelude.{ℕ, ◌+◌, ◌<◌, ◌≤◌, List, [], ◌∷◌, sum}
use Rattle.std.specs.List.{AllZip}

-- both have equally many components, and no component of x is above that of y
abbrev pub IsAtOrBelow : List ℕ → List ℕ → Type 0
IsAtOrBelow x y = AllZip (λ a b. a ≤ b) x y

-- some component is above zero, so that they sum to more than zero
abbrev pub IsNonZero : List ℕ → Type 0
IsNonZero x = 0 < sum x

-- component by component
abbrev pub add : List ℕ → List ℕ → List ℕ
add [] y = []
add (a ∷ x) [] = []
add (a ∷ x) (b ∷ y) = (a + b) ∷ add x y
