-- The variables of a flat form, in order of first occurrence, and fresh variables for them.
use Rattle.std.specs.Prelude.{◌≡◌, ℕ, ◌+◌, ◌≤◌, ◌<◌, Bool, true, if◌then◌else◌, List, [], ◌∷◌, ◌++◌}
use Rattle.std.specs.List.{list_any}
use Rattle.fvn_terms.specs.declared.plain.Var.{Var}
use Rattle.fvn_terms.specs.Substitution.{same_var, Occurs}
use Rattle.fvn_forms.specs.Flat.{FlatTerm, FlatTerms, fvar, fapp, fnone, fmore, plain}
use Rattle.fvn_flat.specs.Bindings.{Bindings, value}

-- whether x stands in the list
abbrev pub listed : List Var → Var → Bool
listed vars x = list_any (λ y. same_var y x) vars

-- with x at the end, if it is not there yet
abbrev pub with_variable : List Var → Var → List Var
with_variable vars x = if listed vars x then vars else vars ++ x ∷ []

-- the list with the variables of a form that are not there yet, in order of first occurrence
abbrev mutual
  pub with_variables : FlatTerm → List Var → List Var
  with_variables (fvar x) vars = with_variable vars x
  with_variables (fapp f joined ts) vars = with_all_variables ts vars

  -- the same for a list of forms, one after another
  pub with_all_variables : FlatTerms → List Var → List Var
  with_all_variables fnone vars = vars
  with_all_variables (fmore t ts) vars = with_all_variables ts (with_variables t vars)

-- the variables of a form, each once
abbrev pub distinct_variables : FlatTerm → List Var
distinct_variables t = with_variables t []

-- the fresh variable of a number, of the sort of x
abbrev pub fresh_for : ℕ → Var → Var
fresh_for n x = record { name = n; sort = x.sort; fresh = true }

-- fresh variables for those of the list, numbered along it from n
abbrev pub renaming : ℕ → List Var → Bindings
renaming n [] = []
renaming n (x ∷ vars) = (x, fvar (fresh_for n x)) ∷ renaming (n + 1) vars

-- the fresh variables for those of the form, numbered along it from n; other variables stay
abbrev pub fresh_names : ℕ → FlatTerm → Var → FlatTerm
fresh_names n t = value (renaming n (distinct_variables t))

-- s sends these variables to fresh ones of the same sorts, numbered from first and below next, distinct ones to distinct ones
pub record RenamesApart (Among : Var → Type 0) (first next : ℕ) (s : Var → FlatTerm) : Type 0 where
  pub fresh : (x : Var) → Among x → (n : ℕ) × (s x ≡ fvar (fresh_for n x)) × (first ≤ n) × (n < next)
  pub distinct : (x y : Var) → Among x → Among y → s x ≡ s y → x ≡ y

-- x occurs in the form
abbrev pub OccursInForm : FlatTerm → Var → Type 0
OccursInForm t x = Occurs x (plain t)
