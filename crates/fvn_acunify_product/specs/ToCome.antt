-- Lists of numbers, one for each of some places, that are given from the greatest down.
use Rattle.std.specs.Prelude.{◌≡◌, ◌⊎◌, ℕ, List, Option, Some, None}
use Rattle.std.specs.List.{AllZip}
use Rattle.fvn_base.specs.Order.{IsBefore}

-- the numbers are the current ones, or come before them in lexicographic order
abbrev pub IsAtOrBefore : Option (List ℕ) → List ℕ → Type 0
IsAtOrBefore None numbers = ⊥
IsAtOrBefore (Some current) numbers = (numbers ≡ current) ⊎ IsBefore numbers current

-- a list with a number for each place, one that may stand there, is still to come
abbrev pub IsToCome : {A : Type 0} → (A → ℕ → Type 0) → List A → Option (List ℕ) → List ℕ → Type 0
IsToCome May places current numbers = AllZip May places numbers × IsAtOrBefore current numbers

-- the list has the property, and every other list that has it comes before this one
abbrev pub IsGreatest : (List ℕ → Type 0) → List ℕ → Type 0
IsGreatest P x = P x × ((y : List ℕ) → P y → (y ≡ x) ⊎ IsBefore y x)
