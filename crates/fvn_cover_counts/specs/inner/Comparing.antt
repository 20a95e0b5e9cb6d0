-- Comparison of rows.
use Rattle.std.specs.Prelude.{◌≡◌, ℕ, Bool, true, false, ◌||◌, nat_eq, nat_lt, if◌then◌else◌, List, [], ◌∷◌, length, IsTrue, Any}
use Rattle.fvn_terms.specs.declared.declarations.Declarations.{Declarations}
use Rattle.fvn_cover_counts.specs.declared.symbols.Symbol.{Symbol}
use Rattle.fvn_cover_counts.specs.declared.symbols.Symbol.TheVariants.{Variable, Operator}
use Rattle.fvn_cover_counts.specs.declared.rows.Row.{Row}
use Rattle.fvn_cover_counts.specs.Weights.{same_symbol, IsKept}

-- what is left of the list after b, which is struck off where it comes first
abbrev pub after_one : List ℕ → ℕ → List ℕ
after_one [] b = []
after_one (a ∷ xs) b = if nat_eq a b then xs else a ∷ xs

-- the same after all of these
abbrev pub after_all : List ℕ → List ℕ → List ℕ
after_all xs [] = xs
after_all xs (b ∷ ys) = after_all (after_one xs b) ys

-- whether a list has nothing
abbrev pub has_nothing : List ℕ → Bool
has_nothing [] = true
has_nothing (a ∷ xs) = false

-- whether the first list is some of the second, in their order
abbrev pub is_part : List ℕ → List ℕ → Bool
is_part xs ys = has_nothing (after_all xs ys)

-- the two are of one symbol, and the places of the first are some of those of the second
abbrev pub IsOwn : Row → Row → Type 0
IsOwn r o = (same_symbol r.symbol o.symbol ≡ true) × IsTrue (is_part r.places o.places)

-- where the symbol is an operator that the axioms keep, the row has such a row among the others
abbrev pub AllowsSymbol : Declarations → List Row → Row → Symbol → Type 0
AllowsSymbol d others r (Variable x) = Unit {0}
AllowsSymbol d others r (Operator f) = IsKept d f → Any (IsOwn r) others

-- a row of an operator that the axioms keep has such a row among the others
abbrev pub AllowsOperator : Declarations → List Row → Row → Type 0
AllowsOperator d others r = AllowsSymbol d others r r.symbol

-- the symbol is a variable, and the row has only places of o
abbrev pub is_symbol_below : Row → Row → Symbol → Bool
is_symbol_below o r (Variable x) = is_part r.places o.places
is_symbol_below o r (Operator f) = false

-- the row is of a variable, and has only places of o
abbrev pub is_below : Row → Row → Bool
is_below o r = is_symbol_below o r r.symbol

-- one of the rows, before the first with more places
abbrev pub is_above_some : Row → List Row → Bool
is_above_some o [] = false
is_above_some o (r ∷ rs) = if nat_lt (length o.places) (length r.places) then false else (is_below o r || is_above_some o rs)

-- where the symbol is a variable, o is above one of the rows
abbrev pub allows_symbol : List Row → Row → Symbol → Bool
allows_symbol rows o (Variable y) = is_above_some o rows
allows_symbol rows o (Operator g) = true

-- o is above one of the rows, if it is of a variable
abbrev pub allows_variable : List Row → Row → Bool
allows_variable rows o = allows_symbol rows o o.symbol
