-- Rows by the numbers of their sorts, each once.
use Rattle.std.specs.Prelude.{ℕ, suc, Bool, true, false, nat_lt, nat_eq, ◌&&◌, ◌||◌, if◌then◌else◌, List, [], ◌∷◌, map, Contains}
use Rattle.fvn_base.specs.Order.{IsBefore}
use Rattle.fvn_refine.specs.inner.Rows.{Row}

-- the numbers of the sorts
abbrev pub numbers : Row → List ℕ
numbers row = map (λ w. w.0) row

-- the test of standing before, in lexicographic order
abbrev pub is_before : Row → Row → Bool
is_before [] [] = false
is_before [] (w ∷ ws) = true
is_before (v ∷ vs) [] = false
is_before (v ∷ vs) (w ∷ ws) = nat_lt v.0 w.0 || (nat_eq v.0 w.0 && is_before vs ws)

-- how many rows at the front stand before this one
abbrev pub place : List Row → Row → ℕ
place [] row = 0
place (r ∷ rows) row = if is_before r row then suc (place rows row) else 0

-- the rows with one more in its place, if it is not there yet
abbrev pub with_in_place : List Row → Row → List Row
with_in_place [] row = row ∷ []
with_in_place (r ∷ rows) row = if is_before r row then r ∷ with_in_place rows row else if is_before row r then row ∷ r ∷ rows else r ∷ rows

-- the rows with more of them, one after another in their places
abbrev pub with_all_in_place : List Row → List Row → List Row
with_all_in_place rows [] = rows
with_all_in_place rows (row ∷ more) = with_all_in_place (with_in_place rows row) more

-- all in their places
abbrev pub all_in_place : List Row → List Row
all_in_place = with_all_in_place []

-- each row stands before all later ones
abbrev pub AreInOrder : List Row → Type 0
AreInOrder [] = Unit {0}
AreInOrder (r ∷ rows) = ((q : Row) → Contains rows q → IsBefore (numbers r) (numbers q)) × AreInOrder rows
