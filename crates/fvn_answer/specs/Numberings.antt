-- Numberings of the variables of values, as new variables.
use Rattle.std.specs.Prelude.{ℕ, ◌≢◌, ◌↔◌, List, ◌∷◌, AllPairs, Contains, decimal, unwrap_or}
use Rattle.std.specs.List.{position_from}
use Rattle.fvn_terms.specs.declared.plain.Var.{Var}
use Rattle.fvn_terms.specs.Substitution.{OccursAmong, same_var}
use Rattle.fvn_syntax.specs.Pieces.{Text}
use Rattle.fvn_forms.specs.Flat.{FlatTerm, fpack, plain_all}

-- x occurs in one of the forms
abbrev pub OccursInForms : List FlatTerm → Var → Type 0
OccursInForms ts x = OccursAmong x (plain_all (fpack ts))

-- The variables of the forms in some order, each once: the first has the number 1, the next the number 2, and so on.
pub record IsNumbering (ts : List FlatTerm) (order : List Var) : Type 0 where
  pub exact : (x : Var) → Contains order x ↔ OccursInForms ts x
  pub distinct : AllPairs (λ x y. x ≢ y) order

-- the number of a variable, counted from 1
abbrev pub number : (order : List Var) → Var → ℕ
number order x = unwrap_or (position_from (λ y. same_var y x) 1 order) 0

-- `#` and the number
abbrev pub new_name : (order : List Var) → Var → Text
new_name order x = 35 ∷ decimal (number order x)
