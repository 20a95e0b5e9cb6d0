-- The least sort of a flat form.
-- J. A. Goguen and J. Meseguer, Order-sorted algebra I, 1992.
use Rattle.std.specs.Prelude.{◌≡◌, Bool, true, false, List, [], ◌∷◌}
use Rattle.std.specs.List.{fold}
use Rattle.fvn_terms.specs.declared.plain.Var.{Var}
use Rattle.fvn_terms.specs.declared.plain.OpId.{OpId}
use Rattle.fvn_terms.specs.declared.plain.SortId.{SortId}
use Rattle.fvn_terms.specs.declared.declarations.Declarations.{Declarations}
use Rattle.fvn_terms.specs.Signature.{kind, IsSort, HasKind}
use Rattle.fvn_forms.specs.Flat.{FlatTerm, FlatTerms, fvar, fapp, fnone, fmore, plain}
use Rattle.fvn_forms.specs.Settled.{Settled}
use Rattle.fvn_forms.specs.Ranks.{result}

module _ (d : Declarations) where
  -- the least sort that f gives over two sorts
  abbrev pub result_of_two : OpId → SortId → SortId → SortId
  result_of_two f s q = result d f (s ∷ q ∷ [])

  -- the least sort of a sum of f over terms of these sorts, from the left
  abbrev pub sum_sort : OpId → List SortId → SortId
  sum_sort f [] = result d f []
  sum_sort f (s ∷ ss) = fold (result_of_two f) s ss

  -- the least sort of f over terms of these sorts, joined or not
  abbrev pub sort_over : OpId → Bool → List SortId → SortId
  sort_over f true ss = sum_sort f ss
  sort_over f false ss = result d f ss

  -- the least sort of a flat form whose variables have these sorts
  abbrev mutual
    pub sort_in : (Var → SortId) → FlatTerm → SortId
    sort_in env (fvar x) = env x
    sort_in env (fapp f joined ts) = sort_over f joined (sorts_in env ts)

    -- the least sorts of a list of flat forms whose variables have these sorts
    pub sorts_in : (Var → SortId) → FlatTerms → List SortId
    sorts_in env fnone = []
    sorts_in env (fmore t ts) = sort_in env t ∷ sorts_in env ts

  -- the least sort of a flat form
  abbrev pub least_sort : FlatTerm → SortId
  least_sort = sort_in (λ x. x.sort)

  -- each variable has a sort of its kind
  abbrev pub KeepsKindsOfVariables : (Var → SortId) → Type 0
  KeepsKindsOfVariables env = (x : Var) → IsSort d x.sort → kind d (env x) ≡ kind d x.sort

  -- each variable stands for a settled form of its kind
  pub record IsFlatSubstitution (s : Var → FlatTerm) : Type 0 where
    pub settled : (x : Var) → Settled d (s x)
    pub keeps_kinds : (x : Var) → IsSort d x.sort → HasKind d (plain (s x)) (kind d x.sort)
