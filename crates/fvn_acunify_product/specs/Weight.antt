-- How many lists of numbers come before one, where each number is below a count of its own: a measure for loops that go through such lists.
use Rattle.std.specs.Prelude.{ℕ, ◌+◌, ◌*◌, List, [], ◌∷◌, Option, Some, None}

-- how many lists there are with a number below each count
abbrev pub product : List ℕ → ℕ
product [] = 1
product (c ∷ counts) = c * product counts

-- how many of these lists come before the given one in lexicographic order
abbrev pub rank : List ℕ → List ℕ → ℕ
rank [] numbers = 0
rank (c ∷ counts) [] = 0
rank (c ∷ counts) (n ∷ numbers) = n * product counts + rank counts numbers

-- how many lists are left: the current one and those before it, or none
abbrev pub weight : List ℕ → Option (List ℕ) → ℕ
weight counts None = 0
weight counts (Some current) = rank counts current + 1
