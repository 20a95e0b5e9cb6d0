-- The sides of pairs in turn, and forms taken two by two.
use Rattle.std.specs.Prelude.{List, [], ◌∷◌, All}
use Rattle.fvn_terms.specs.declared.declarations.Declarations.{Declarations}
use Rattle.fvn_terms.specs.Unifiers.{Problem}
use Rattle.fvn_forms.specs.Flat.{FlatTerm}
use Rattle.fvn_flat.specs.Fits.{Fits, AllFit}
use Rattle.fvn_flat.specs.Problems.{plain_pairs}
use Rattle.fvn_flat.specs.Solving.{FlatPairs}

-- the left and the right side of each pair in turn
abbrev pub sides_in_turn : FlatPairs → List FlatTerm
sides_in_turn [] = []
sides_in_turn (p ∷ pairs) = p.0 ∷ p.1 ∷ sides_in_turn pairs

-- in each signature in which both sides of each pair fit, all of these fit
abbrev pub FitAsSides : FlatPairs → List FlatTerm → Type 0
FitAsSides pairs ts = (d : Declarations) → All (λ p. Fits d p.0 × Fits d p.1) pairs → AllFit d ts

-- the forms two by two; a last one without another is left out
abbrev pub two_by_two : List FlatTerm → FlatPairs
two_by_two [] = []
two_by_two (t ∷ []) = []
two_by_two (t ∷ u ∷ ts) = (t, u) ∷ two_by_two ts

-- the problem that asks to make the forms equal two by two
abbrev pub problem_over : List FlatTerm → Problem
problem_over ts = plain_pairs (two_by_two ts)
