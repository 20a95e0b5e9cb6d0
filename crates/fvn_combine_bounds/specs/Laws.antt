-- Laws of sorts and choices.
use Rattle.std.specs.Prelude.{◌≡◌, ◌≢◌, ℕ, ◌<◌, ◌≤◌, List, [], length, Option, Some}
use Rattle.fvn_terms.specs.declared.plain.OpId.{OpId}
use Rattle.fvn_terms.specs.declared.plain.SortId.{SortId}
use Rattle.fvn_terms.specs.declared.declarations.Declarations.{Declarations}
use Rattle.fvn_terms.specs.Substitution.{Substitution}
use Rattle.fvn_terms.specs.Signature.{axioms}
use Rattle.fvn_terms.specs.Equality.{IsAssociative, identity}
use Rattle.fvn_terms.specs.Unifiers.{Problem}
use Rattle.fvn_forms.specs.Flat.{FlatTerm}
use Rattle.fvn_forms.specs.Canon.{parts}
use Rattle.fvn_forms.specs.Good.{IsGood, IsOfKind}
use Rattle.fvn_flat.specs.Problems.{IsProblem, variables_of}
use Rattle.fvn_flat.specs.SolvedLists.{IsKindUnifier}
use Rattle.fvn_combine_nodes.specs.Table.{NodeTable, IsWellMade, IsTableOf}
use Rattle.fvn_combine_nodes.specs.States.{Admits, class_of}
use Rattle.fvn_combine_nodes.specs.Unifiers.{value_at, kernel}
use Rattle.fvn_combine_nodes.specs.declared.state.State.{State}
use Rattle.fvn_combine_leaves.specs.Leaves.{IsLeaf, IsSumOperator, Uses, IsShared}
use Rattle.fvn_combine_complete.specs.CombineChoicesChoosing.{Systems, Choice, AreSystems, member_count}
use Rattle.fvn_combine_complete.specs.Alive.{ListsAlive}
use Rattle.fvn_combine_complete.specs.CoveringChoices.{IsCovering}
use Rattle.fvn_combine_complete.specs.Neutral.{IsNeutral}
use Rattle.fvn_combine_complete.specs.Obeyed.{AreObeying}
use Rattle.fvn_combine_complete.specs.Vanishing.{TakesIdentity}
use Rattle.fvn_combine_complete.specs.Obeying.{IsTold, ObeyHeads, TagsFollow, ObeyTags}
use Rattle.fvn_sort_bounds.specs.Admitting.{AdmitsSum}
use Rattle.fvn_combine_bounds.specs.Narrow.{IsNarrow, IsNeverIdentity, IsSortedAt, KeepsBounds, KeepsSorts}

-- a choice that values obey takes a class no more often than its value has summands, where the operator is not
-- neutral and the class does not take its identity; and it takes the class where its value has some summand
pub record IsTakenForSummands (d : Declarations) (t : NodeTable) (class : ℕ → ℕ) (y : Systems) (c : Choice)
    (values : ℕ → FlatTerm) : Type 0 where
  pub within : (f : OpId) → IsSumOperator d t f → (IsNeutral d f → ⊥) → (k : ℕ) → Uses d t class f k
      → ((unit : OpId) → identity (axioms d f) ≡ Some unit → TakesIdentity d t class f unit k → ⊥)
      → member_count y c f k ≤ length (parts d f (values k))
  pub some : (f : OpId) → IsSumOperator d t f → (k : ℕ) → Uses d t class f k → parts d f (values k) ≢ []
      → 0 < member_count y c f k

-- so do all choices that are obeyed
abbrev pub TakenSolutionsStandForSummands : Type 0
TakenSolutionsStandForSummands =
    (d : Declarations) (t : NodeTable) (class : ℕ → ℕ) (y : Systems) (c : Choice) (values : ℕ → FlatTerm)
    → AreObeying d t class y c values → IsTakenForSummands d t class y c values

-- a narrow class does not take the operator's identity
abbrev pub NarrowClassesTakeNoIdentity : Type 0
NarrowClassesTakeNoIdentity =
    (d : Declarations) (problem : Problem) (t : NodeTable) (s : State) (u : Substitution) → IsSortedAt d problem t s u
    → (f unit : OpId) → identity (axioms d f) ≡ Some unit → (k : ℕ) → Uses d t (class_of s) f k
    → IsNarrow d t (class_of s) f k → TakesIdentity d t (class_of s) f unit k → ⊥

-- the value of a narrow class has at most one summand
abbrev pub NarrowClassesHaveOneSummand : Type 0
NarrowClassesHaveOneSummand =
    (d : Declarations) (problem : Problem) (t : NodeTable) (s : State) (u : Substitution) → IsSortedAt d problem t s u
    → (f : OpId) → IsAssociative (axioms d f) → (k : ℕ) → IsNarrow d t (class_of s) f k
    → length (parts d f (value_at d u t.nodes k)) ≤ 1

-- the value of a class that is never the identity has some summand
abbrev pub OtherClassesHaveSomeSummand : Type 0
OtherClassesHaveSomeSummand =
    (d : Declarations) (problem : Problem) (t : NodeTable) (s : State) (u : Substitution) → IsSortedAt d problem t s u
    → (f : OpId) (k : ℕ) → IsNeverIdentity d t (class_of s) f k → parts d f (value_at d u t.nodes k) ≢ []

-- a choice that its values obey keeps to what sorts ask
abbrev pub ObeyedChoicesKeepBounds : Type 0
ObeyedChoicesKeepBounds =
    (d : Declarations) (problem : Problem) (t : NodeTable) (s : State) (u : Substitution) → IsSortedAt d problem t s u
    → (y : Systems) (c : Choice) → AreObeying d t (class_of s) y c (value_at d u t.nodes)
    → KeepsBounds d t (class_of s) y c

-- no operator under which a class is narrow, and whose identity it never is, is its tag
abbrev pub NarrowClassesHaveNoTag : Type 0
NarrowClassesHaveNoTag =
    (d : Declarations) (problem : Problem) (t : NodeTable) (s : State) (u : Substitution) → IsSortedAt d problem t s u
    → (tag : ℕ → Option OpId) → ObeyTags d t (class_of s) tag (value_at d u t.nodes)
    → (f : OpId) (k : ℕ) → IsShared d t (class_of s) k → Uses d t (class_of s) f k
    → IsNarrow d t (class_of s) f k → IsNeverIdentity d t (class_of s) f k → tag k ≢ Some f

-- an operator whose identity leaves sorts alone admits sums of each sort of its kind
abbrev pub NeutralOperatorsAdmitSums : Type 0
NeutralOperatorsAdmitSums =
    (d : Declarations) → IsGood d → (f : OpId) → IsNeutral d f → (s : SortId) → IsOfKind d f s → AdmitsSum d f s

-- at a leaf that admits its partition, each unifier on kinds whose values obey the leaf's heads is covered by some choice, whose tags follow these; where
-- it gives the problem's variables terms of their sorts, the choice keeps to what sorts ask
abbrev pub SortedLeavesCover : Type 0
SortedLeavesCover =
    (d : Declarations) → IsGood d → (problem : Problem) → IsProblem d problem
    → (t : NodeTable) → IsWellMade t → IsTableOf d problem t
    → (s : State) (heads : List (Option OpId)) → IsLeaf d t heads s → IsTold d t (class_of s) → (y : Systems) → AreSystems d t (class_of s) y → ListsAlive d t s y
    → (u : Substitution) → IsKindUnifier d problem u → Admits s (kernel d u t.nodes) → ObeyHeads d t s heads (value_at d u t.nodes)
    → (c : Choice) × IsCovering d problem t s y u c
    × (KeepsSorts d (variables_of problem) u → KeepsBounds d t (class_of s) y c)
    × TagsFollow d t (class_of s) c.tag (value_at d u t.nodes) heads
