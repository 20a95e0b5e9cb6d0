-- What is taken from a source, where the source tells the bytes that it has left.
use Rattle.std.specs.Prelude.{◌≡◌, ◌≤◌, ◌++◌, ℕ, List, length}
use Rattle.std.specs.Option.{option_map}
use Rattle.std.specs.declared.option.Option.{Option}

-- These bytes were the next ones, and the rest is left.
-- What is left is told after exactly where it was told before.
abbrev pub Takes : Option (List ℕ) → Option (List ℕ) → List ℕ → Type 0
Takes before after bytes = before ≡ option_map (λ rest. bytes ++ rest) after

-- the next n bytes were taken
abbrev pub TakesCount : Option (List ℕ) → Option (List ℕ) → ℕ → Type 0
TakesCount before after n = (bytes : List ℕ) × (length bytes ≡ n) × Takes before after bytes

-- some next bytes were taken, n at most
abbrev pub TakesAtMost : Option (List ℕ) → Option (List ℕ) → ℕ → Type 0
TakesAtMost before after n = (bytes : List ℕ) × (length bytes ≤ n) × Takes before after bytes
