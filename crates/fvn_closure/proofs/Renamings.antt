-- Renamings of some variables as well-sorted substitutions of all.
use Rattle.std.proofs.Common.{◌≡◌, ◌⊎◌, Bool, true, false, List, [], ◌∷◌, ◌++◌, refl, sym, subst, inl, inr}
use Rattle.std.specs.List.{Contains}
use Rattle.std.proofs.lemmas.List.Elements.{Contains-append_left, Contains-append_right, Contains-append_cases}
use Rattle.fvn_base.proofs.Membership.{contains_here, contains_later, contains_cases, contains_none}
use Rattle.fvn_terms.specs.declared.plain.Var.{Var}
use Rattle.fvn_terms.specs.declared.declarations.Declarations.{Declarations}
use Rattle.fvn_terms.specs.Term.{Term, var}
use Rattle.fvn_terms.specs.Substitution.{Substitution, apply, Occurs}
use Rattle.fvn_terms.specs.Signature.{IsSort, kind, HasKind, same}
use Rattle.fvn_terms.specs.Places.{stop}
use Rattle.fvn_terms.specs.Sorts.{HasSort, IsWellSorted}
use Rattle.fvn_terms.proofs.Substitutions.{apply-agree}
use Rattle.fvn_flat.specs.Drawn.{Renaming, renamed}
use Rattle.fvn_flat.specs.Problems.{variables}
use Rattle.fvn_flat.specs.Successors.{IsRenaming}
use Rattle.fvn_flat.specs.Variables.{listed}
use Rattle.fvn_flat.proofs.VariableLists.{variables_list, variables_occur}
use Rattle.fvn_rewrite_laws.proofs.Listing.{var_listed, listed_var}

-- the variables of all terms of a list
abbrev pub variables_of_all : List Term → List Var
variables_of_all [] = []
variables_of_all (t ∷ ts) = variables t ++ variables_of_all ts

pub all_variables : (ts : List Term) (t : Term) (x : Var) → Contains ts t → Occurs x t → Contains (variables_of_all ts) x
all_variables [] t x h o = absurd (contains_none t h)
all_variables (u ∷ ts) t x h o = elim (contains_cases u ts t h) as (λ _. Contains (variables_of_all (u ∷ ts)) x) [
  | inl e ↦ Contains-append_left (variables u) (variables_of_all ts) x (variables_list x u (subst (Occurs x) (sym e) o))
  | inr i ↦ Contains-append_right (variables u) (variables_of_all ts) x (all_variables ts t x i o)
]

pub no_other_variables : (ts : List Term) (x : Var) → Contains (variables_of_all ts) x → (t : Term) × (Contains ts t × Occurs x t)
no_other_variables [] x h = absurd (contains_none x h)
no_other_variables (u ∷ ts) x h = go (Contains-append_cases (variables u) (variables_of_all ts) x h) (no_other_variables ts x) where
  go : Contains (variables u) x ⊎ Contains (variables_of_all ts) x → (Contains (variables_of_all ts) x → (t : Term) × (Contains ts t × Occurs x t)) → (t : Term) × (Contains (u ∷ ts) t × Occurs x t)
  go (inl l) later = (u, (contains_here u ts, variables_occur x u l))
  go (inr r) later = let w = later r in (w.0, (contains_later u ts w.0 w.1.0, w.1.1))

-- a listed variable is renamed, another one stays
abbrev pub renamed_or_not : Renaming → Bool → Var → Term
renamed_or_not r true x = var (r x)
renamed_or_not r false x = var x

-- the renaming of the listed variables; all others stay
abbrev pub limited : Renaming → List Var → Substitution
limited r vars x = renamed_or_not r (listed vars x) x

module _ (d : Declarations) where
  -- a variable has its sort and its kind
  pub variable_of_sort : (x y : Var) → y.sort ≡ x.sort → HasSort d (var y) x.sort
  variable_of_sort x y e = record { form = var y; equal = stop; gets = record { sort = x.sort; gets = e; below = same } }

  pub variable_of_kind : (x y : Var) → y.sort ≡ x.sort → IsSort d x.sort → HasKind d (var y) (kind d x.sort)
  variable_of_kind x y e i = subst (λ s. IsSort d s × (kind d s ≡ kind d x.sort)) (sym e) (i, refl)

  module _ (Among : Var → Type 0) (r : Renaming) (renames : IsRenaming Among r) (vars : List Var) (within : (x : Var) → Contains vars x → Among x) where
    pub limited_sorted : IsWellSorted d (limited r vars)
    limited_sorted = (λ x i. kinds x i (listed vars x) refl, λ x. sorts x (listed vars x) refl) where
      kinds : (x : Var) → IsSort d x.sort → (b : Bool) → listed vars x ≡ b → HasKind d (renamed_or_not r b x) (kind d x.sort)
      kinds x i true e = variable_of_kind x (r x) (renames.sorts x (within x (var_listed vars x e))) i
      kinds x i false e = variable_of_kind x x refl i

      sorts : (x : Var) → (b : Bool) → listed vars x ≡ b → HasSort d (renamed_or_not r b x) x.sort
      sorts x true e = variable_of_sort x (r x) (renames.sorts x (within x (var_listed vars x e)))
      sorts x false e = variable_of_sort x x refl

-- a term of which all variables are listed is renamed so
pub limited_renames : (r : Renaming) (vars : List Var) (t : Term) → ((x : Var) → Occurs x t → Contains vars x) → apply (limited r vars) t ≡ renamed r t
limited_renames r vars t h = apply-agree (limited r vars) (λ x. var (r x)) t (λ x o. subst (λ b. renamed_or_not r b x ≡ var (r x)) (sym (listed_var vars x (h x o))) refl)
