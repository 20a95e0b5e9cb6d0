-- Choices of a number for each of some places, one after another.
use Rattle.std.specs.Prelude.{◌≡◌, ◌⊎◌, ℕ, ◌+◌, ◌-◌, ◌*◌, ◌/◌, ◌≤◌, ◌<◌, ◌&&◌, nat_lt, if◌then◌else◌, List, [], ◌∷◌, map, sum, Option, Some, None}
use Rattle.std.specs.List.{AllZip}

-- the choice that is zero at a place more
abbrev pub with_zero : Option (List ℕ) → Option (List ℕ)
with_zero None = None
with_zero (Some cs) = Some (0 ∷ cs)

-- the next choice: the first place that is below its limit rises by one, if the places from there on leave room; those before it are zero again
abbrev pub advanced : ℕ → List ℕ → List ℕ → Option (List ℕ)
advanced room [] cs = None
advanced room (l ∷ ls) [] = None
advanced room (l ∷ ls) (c ∷ cs) = if nat_lt c l && nat_lt (c + sum cs) room then Some ((c + 1) ∷ cs) else with_zero (advanced room ls cs)

-- no place is over its limit, and all together leave no more than the room
pub record IsWithin (room : ℕ) (limits cs : List ℕ) : Type 0 where
  pub places : AllZip (λ c l. c ≤ l) cs limits
  pub together : sum cs ≤ room

-- the first choice comes before the second: at the last place where they differ it is lower
abbrev pub Before : List ℕ → List ℕ → Type 0
Before [] js = ⊥
Before (c ∷ cs) [] = ⊥
Before (c ∷ cs) (j ∷ js) = Before cs js ⊎ ((cs ≡ js) × (c < j))

-- a choice as one number
abbrev pub place_value : List ℕ → List ℕ → ℕ
place_value [] cs = 0
place_value (l ∷ ls) [] = 0
place_value (l ∷ ls) (c ∷ cs) = c + (l + 1) * place_value ls cs

-- how often k times a choice fits
abbrev pub quotients : ℕ → List ℕ → List ℕ
quotients k ns = map (λ n. n / k) ns

-- what is left after k times the choice
abbrev pub reduced : ℕ → List ℕ → List ℕ → List ℕ
reduced k [] js = []
reduced k (n ∷ ns) [] = []
reduced k (n ∷ ns) (j ∷ js) = (n - k * j) ∷ reduced k ns js
