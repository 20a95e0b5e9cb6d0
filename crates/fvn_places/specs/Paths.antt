-- Paths to the forms within a form: which argument is taken, from one form on the way to the next.
use Rattle.std.specs.Prelude.{◌≡◌, ◌+◌, ℕ, List, [], ◌∷◌, ◌++◌, map, Some, slice_get}
use Rattle.fvn_forms.specs.Flat.{FlatTerm, FlatTerms, fvar, fapp, fnone, fmore}
use Rattle.fvn_flat.specs.Forms.{args_of}

-- the path leads from the first form to the second
abbrev pub LeadsTo : List ℕ → FlatTerm → FlatTerm → Type 0
LeadsTo [] t at = t ≡ at
LeadsTo (i ∷ path) t at = (u : FlatTerm) × (slice_get (args_of t) i ≡ Some u) × LeadsTo path u at

-- the path leads from the form to none
abbrev pub LeadsNowhere : List ℕ → FlatTerm → Type 0
LeadsNowhere path t = (at : FlatTerm) → LeadsTo path t at → ⊥

-- the paths to all forms within a form that are no variables, that to a form before those to its arguments
abbrev mutual
  pub paths : FlatTerm → List (List ℕ)
  paths (fvar x) = []
  paths (fapp f joined ts) = [] ∷ paths_from 0 ts

  -- those that go through one of these arguments, of which the first has this number
  pub paths_from : ℕ → FlatTerms → List (List ℕ)
  paths_from i fnone = []
  paths_from i (fmore t ts) = map (λ path. i ∷ path) (paths t) ++ paths_from (i + 1) ts

-- the same, after a path to the form
abbrev pub paths_after : List ℕ → FlatTerm → List (List ℕ)
paths_after before t = map (λ path. before ++ path) (paths t)
