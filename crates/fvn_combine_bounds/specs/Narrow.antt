-- Classes whose values, by the sorts of their variables, have few summands, or some.
use Rattle.std.specs.Prelude.{◌≡◌, ◌≢◌, ℕ, ◌<◌, ◌≤◌, List, slice_get, Some, Contains}
use Rattle.fvn_terms.specs.declared.plain.Var.{Var as Variable}
use Rattle.fvn_terms.specs.declared.plain.OpId.{OpId}
use Rattle.fvn_terms.specs.declared.declarations.Declarations.{Declarations}
use Rattle.fvn_terms.specs.Substitution.{Substitution}
use Rattle.fvn_terms.specs.Sorts.{HasSort}
use Rattle.fvn_terms.specs.Unifiers.{Problem}
use Rattle.fvn_forms.specs.Good.{IsGood}
use Rattle.fvn_flat.specs.Problems.{IsProblem, variables_of}
use Rattle.fvn_flat.specs.SolvedLists.{IsKindUnifier}
use Rattle.fvn_combine_nodes.specs.Table.{NodeTable, IsWellMade, IsTableOf}
use Rattle.fvn_combine_nodes.specs.States.{Admits, IsClosed}
use Rattle.fvn_combine_nodes.specs.Unifiers.{kernel}
use Rattle.fvn_combine_nodes.specs.declared.state.State.{State}
use Rattle.fvn_combine_nodes.specs.declared.table.Node.TheVariants.{Var}
use Rattle.fvn_combine_leaves.specs.Leaves.{IsSumOperator, Uses, IsShared}
use Rattle.fvn_combine_complete.specs.CombineChoicesChoosing.{Systems, Choice, member_count}
use Rattle.fvn_combine_complete.specs.Neutral.{IsNeutral}
use Rattle.fvn_sort_bounds.specs.Admitting.{AdmitsSum, AdmitsIdentity}

-- a node of class k is this variable
pub record HasVariable (t : NodeTable) (class : ℕ → ℕ) (k : ℕ) (x : Variable) : Type 0 where
  pub node : ℕ
  pub is : slice_get t.nodes node ≡ Some (Var x)
  pub of : class node ≡ k

module _ (d : Declarations) (t : NodeTable) (class : ℕ → ℕ) (f : OpId) where
  -- a variable of class k has a sort that admits no sum by f
  pub record IsNarrow (k : ℕ) : Type 0 where
    pub variable : Variable
    pub has : HasVariable t class k variable
    pub none : AdmitsSum d f variable.sort → ⊥

  -- a variable of class k has a sort that does not admit the identity of f
  pub record IsNeverIdentity (k : ℕ) : Type 0 where
    pub variable : Variable
    pub has : HasVariable t class k variable
    pub none : AdmitsIdentity d f variable.sort → ⊥

-- what sorts ask of a choice: it takes a narrow class once at most, where the operator is not neutral, and a class
-- that is never the identity at least once; and it binds no class to a sum by an operator under which it is narrow,
-- and whose identity it never is
pub record KeepsBounds (d : Declarations) (t : NodeTable) (class : ℕ → ℕ) (y : Systems) (c : Choice) : Type 0 where
  pub once : (f : OpId) → IsSumOperator d t f → (IsNeutral d f → ⊥) → (k : ℕ) → Uses d t class f k
      → IsNarrow d t class f k → member_count y c f k ≤ 1
  pub some : (f : OpId) → IsSumOperator d t f → (k : ℕ) → Uses d t class f k → IsNeverIdentity d t class f k
      → 0 < member_count y c f k
  pub untagged : (f : OpId) (k : ℕ) → IsShared d t class k → Uses d t class f k → IsNarrow d t class f k
      → IsNeverIdentity d t class f k → c.tag k ≢ Some f

-- u gives these variables terms of their sorts
abbrev pub KeepsSorts : Declarations → List Variable → Substitution → Type 0
KeepsSorts d vars u = (x : Variable) → Contains vars x → HasSort d (u x) x.sort

-- a unifier on kinds that gives the problem's variables terms of their sorts, and a closed state that admits its
-- partition
pub record IsSortedAt (d : Declarations) (problem : Problem) (t : NodeTable) (s : State)
    (u : Substitution) : Type 0 where
  pub good : IsGood d
  pub is_problem : IsProblem d problem
  pub well_made : IsWellMade t
  pub table : IsTableOf d problem t
  pub closed : IsClosed d t s
  pub unifies : IsKindUnifier d problem u
  pub sorted : KeepsSorts d (variables_of problem) u
  pub admits : Admits s (kernel d u t.nodes)
