-- What the variables of a term may stand for: variables of lower sorts, and identities.
-- J. A. Goguen and J. Meseguer, Order-sorted algebra I, 1992.
use Rattle.std.specs.Prelude.{◌≤◌, ◌+◌, ◌*◌, ℕ, nat_lt, if◌then◌else◌, List, [], ◌∷◌, ◌++◌, map, length, filter, fold, Contains}
use Rattle.fvn_base.specs.declared.limits.TheConstants.{IDENTITY_INSTANCES, SORT_INSTANCES}
use Rattle.fvn_terms.specs.declared.plain.Var.{Var}
use Rattle.fvn_terms.specs.declared.plain.OpId.{OpId}
use Rattle.fvn_terms.specs.declared.plain.SortId.{SortId}
use Rattle.fvn_terms.specs.declared.declarations.Declarations.{Declarations}
use Rattle.fvn_terms.specs.Term.{Term}
use Rattle.fvn_terms.specs.Substitution.{Occurs}
use Rattle.fvn_forms.specs.SortOrder.{at_or_below}
use Rattle.fvn_forms.specs.Ranks.{result}
use Rattle.fvn_signature.specs.FirstSorts.{first_sorts}
use Rattle.fvn_flat.specs.Problems.{variables}
use Rattle.fvn_flat.specs.Variables.{with_variable}
use Rattle.fvn_rewrite_laws.specs.declared.shapes.Root.TheVariants.{Variable, Constant}
use Rattle.fvn_rewrite_laws.specs.declared.shapes.Shape.{Shape}
use Rattle.fvn_rewrite_laws.specs.Identities.{identities}

-- the variables of a term, each once, in order of first occurrence
abbrev pub distinct_variables_of : Term → List Var
distinct_variables_of t = fold with_variable [] (variables t)

-- the product of numbers
abbrev pub product : List ℕ → ℕ
product [] = 1
product (n ∷ ns) = n * product ns

-- a variable of this sort
abbrev pub variable_shape : SortId → Shape
variable_shape s = record { root = Variable; sort = s }

-- the product, over the distinct variables of the term, of this number for their sorts
abbrev pub ways_to_choose : (SortId → ℕ) → Term → ℕ
ways_to_choose number t = product (map (λ (x : Var). number x.sort) (distinct_variables_of t))

module _ (d : Declarations) where
  -- the identity e
  abbrev pub identity_shape : OpId → Shape
  identity_shape e = record { root = Constant e; sort = result d e [] }

  -- the identities whose sort is s or below it
  abbrev pub identities_below : SortId → List OpId
  identities_below s = filter (λ e. at_or_below d (result d e []) s) (identities d)

  -- the sorts at or below s: declared ones, and s itself where it is a kind
  abbrev pub sorts_below : SortId → List SortId
  sorts_below s = filter (λ q. at_or_below d q s) (first_sorts d.sorts) ++ (if nat_lt s.0 d.sorts then [] else s ∷ [])

  -- a variable of sort s may stand for one of a sort at or below s, or for an identity at or below s
  abbrev pub sort_choices : SortId → List Shape
  sort_choices s = map variable_shape (sorts_below s) ++ map identity_shape (identities_below s)

  -- a variable of sort s may stay, or stand for an identity at or below s
  abbrev pub identity_choices : SortId → List Shape
  identity_choices s = variable_shape s ∷ map identity_shape (identities_below s)

  -- the variables of the term have at most IDENTITY_INSTANCES choices of identities, and at most SORT_INSTANCES of sorts and identities
  pub record InstancesFit (t : Term) : Type 0 where
    pub identity_instances : ways_to_choose (λ s. 1 + length (identities_below s)) t ≤ IDENTITY_INSTANCES
    pub sort_instances : ways_to_choose (λ s. length (sorts_below s) + length (identities_below s)) t ≤ SORT_INSTANCES

-- each variable of the term stands for one of its choices
abbrev pub IsChoice : (SortId → List Shape) → Term → (Var → Shape) → Type 0
IsChoice choices t env = (x : Var) → Occurs x t → Contains (choices x.sort) (env x)
