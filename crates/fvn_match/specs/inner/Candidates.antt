-- What a search for a matcher is to find.
use Rattle.std.specs.Prelude.{◌≡◌, List, map, Option, Some, None}
use Rattle.fvn_terms.specs.declared.plain.Var.{Var}
use Rattle.fvn_terms.specs.declared.declarations.Declarations.{Declarations}
use Rattle.fvn_terms.specs.Signature.{IsSort, AtOrBelow}
use Rattle.fvn_forms.specs.Flat.{FlatTerm}
use Rattle.fvn_forms.specs.LeastSort.{least_sort, IsFlatSubstitution}
use Rattle.fvn_flat.specs.Bindings.{Bindings, bound}

-- a flat form for each variable
abbrev pub Values : Type 0
Values = Var → FlatTerm

-- each variable goes to a flat form of its kind and of its sort
pub record IsCandidate (d : Declarations) (c : Values) : Type 0 where
  pub flat : IsFlatSubstitution d c
  pub sorts : (x : Var) → IsSort d x.sort → AtOrBelow d (least_sort d (c x)) x.sort

-- c has the values that were bound
abbrev pub Agrees : Bindings → Values → Type 0
Agrees b c = (x : Var) (t : FlatTerm) → bound b x ≡ Some t → c x ≡ t

-- c is a candidate with the values that were bound, and P holds of it
pub record IsSolution (d : Declarations) (b : Bindings) (P : Values → Type 0) (c : Values) : Type 0 where
  pub candidate : IsCandidate d c
  pub agrees : Agrees b c
  pub holds : P c

-- the values of the variables
abbrev pub pairs_of : List Var → Values → Bindings
pairs_of vars c = map (λ x. (x, c x)) vars

-- what is found are the values of a solution; nothing is found where there is none
abbrev pub Finds : List Var → (Values → Type 0) → Option Bindings → Type 0
Finds vars S None = (c : Values) → S c → ⊥
Finds vars S (Some s) = (c : Values) × S c × (s ≡ pairs_of vars c)
