-- Sorts for the variables of a substitution, and which substitutions are drawn for a problem.
use Rattle.std.specs.Prelude.{◌≡◌, ℕ, List, Contains}
use Rattle.fvn_terms.specs.declared.plain.Var.{Var}
use Rattle.fvn_terms.specs.declared.plain.SortId.{SortId}
use Rattle.fvn_terms.specs.declared.declarations.Declarations.{Declarations}
use Rattle.fvn_terms.specs.Term.{Term, var}
use Rattle.fvn_terms.specs.Substitution.{Substitution, apply, Occurs}
use Rattle.fvn_terms.specs.Signature.{kind, IsSort, AtOrBelow}
use Rattle.fvn_terms.specs.Equality.{BEqual}
use Rattle.fvn_terms.specs.Unifiers.{Problem}
use Rattle.fvn_forms.specs.Canon.{canon}
use Rattle.fvn_forms.specs.LeastSort.{sort_in}
use Rattle.fvn_flat.specs.Bindings.{Bindings}
use Rattle.fvn_flat.specs.Problems.{variables_of}
use Rattle.fvn_flat.specs.Partitions.{IsPartition}
use Rattle.fvn_flat.specs.SolvedLists.{unfolded, IsSolvedList}

-- y occurs in what s gives one of these variables
abbrev pub OccursInValues : List Var → Substitution → Var → Type 0
OccursInValues vars s y = (x : Var) × Contains vars x × Occurs y (s x)

-- a variable for each variable
abbrev pub Renaming : Type 0
Renaming = Var → Var

-- the term with renamed variables
abbrev pub renamed : Renaming → Term → Term
renamed r = apply (λ x. var (r x))

-- different variables of these go to different ones
abbrev pub IsOneToOne : (Var → Type 0) → Renaming → Type 0
IsOneToOne Among r = (x y : Var) → Among x → Among y → r x ≡ r y → x ≡ y

module _ (d : Declarations) (vars : List Var) (s : Substitution) where
  -- a sort of its kind for each variable in the values of s, such that each value has a sort at or below that of its variable
  pub record IsWay (way : Var → SortId) : Type 0 where
    pub kinds : (y : Var) → OccursInValues vars s y → IsSort d (way y) × (kind d (way y) ≡ kind d y.sort)
    pub fits : (x : Var) → Contains vars x → AtOrBelow d (sort_in d way (canon d (s x))) x.sort

  -- no other way has sorts at or above these
  pub record IsMaximalWay (way : Var → SortId) : Type 0 where
    pub is_way : IsWay way
    pub maximal : (other : Var → SortId) → IsWay other →
        ((y : Var) → OccursInValues vars s y → AtOrBelow d (way y) (other y)) → (y : Var) →
        OccursInValues vars s y → other y ≡ way y

-- s is on the problem's variables what a solved list unfolds to, its variables with sorts in a maximal way and with new names
pub record IsDrawn (d : Declarations) (problem : Problem) (s : Substitution) : Type 0 where
  pub class : Term → ℕ
  pub partition : IsPartition d problem class
  pub bindings : Bindings
  pub solved : IsSolvedList d problem class bindings
  pub way : Var → SortId
  pub maximal : IsMaximalWay d (variables_of problem) (unfolded bindings) way
  pub renaming : Renaming
  pub one_to_one : IsOneToOne (OccursInValues (variables_of problem) (unfolded bindings)) renaming
  pub sorted : (y : Var) → OccursInValues (variables_of problem) (unfolded bindings) y → (renaming y).sort ≡ way y
  pub equal : (x : Var) → Contains (variables_of problem) x → BEqual d (s x) (renamed renaming (unfolded bindings x))
