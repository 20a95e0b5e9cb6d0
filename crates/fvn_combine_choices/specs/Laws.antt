-- Laws of choices and their plans.
use Rattle.std.specs.Prelude.{◌≡◌, ◌↔◌, ℕ, ◌≤◌, Bool, List, All}
use Rattle.fvn_terms.specs.declared.plain.OpId.{OpId}
use Rattle.fvn_terms.specs.declared.declarations.Declarations.{Declarations}
use Rattle.fvn_terms.specs.Substitution.{Substitution}
use Rattle.fvn_terms.specs.Unifiers.{Problem}
use Rattle.fvn_forms.specs.Flat.{symbols}
use Rattle.fvn_forms.specs.FitsKinds.{FitsKinds}
use Rattle.fvn_forms.specs.Good.{IsGood}
use Rattle.fvn_acunify.specs.ValidChoice.{IsValid}
use Rattle.fvn_flat.specs.Bindings.{Bindings}
use Rattle.fvn_flat.specs.Problems.{IsProblem}
use Rattle.fvn_flat.specs.Solving.{IsGiven, problem_of}
use Rattle.fvn_flat.specs.SolvedLists.{Plan, IsKindUnifier, IsSolvedBy}
use Rattle.fvn_flat.specs.declared.solver.Pairs.{Pairs}
use Rattle.fvn_combine_nodes.specs.Table.{NodeTable, IsWellMade, IsTableOf}
use Rattle.fvn_combine_nodes.specs.Classes.{IsNodePartition}
use Rattle.fvn_combine_nodes.specs.Laws.{class_at}
use Rattle.fvn_combine_nodes.specs.States.{Admits, IsClosed, class_of}
use Rattle.fvn_combine_nodes.specs.Unifiers.{kernel}
use Rattle.fvn_combine_nodes.specs.declared.state.State.{State}
use Rattle.fvn_combine_leaves.specs.Leaves.{IsSumOperator, IsShared}
use Rattle.fvn_combine_choices.specs.Binding.{IsBound, IsConstant, AreAsked}
use Rattle.fvn_combine_choices.specs.Choosing.{Systems, Choice, AreSystems, AreTakenTogether, IsAcceptable, IsPossible, member_count}
use Rattle.fvn_combine_choices.specs.Plans.{AreOfOneKind, IsPlanBy, AreBindingsBy, UnfoldsToNew, unfolds_to, size_in}

-- in the table of a well-kinded problem, where a choice is a valid one for what is asked, and no shared class is a sum of a constant alone, it is acceptable; and the other way round
abbrev pub ValidChoicesAreAcceptable : Type 0
ValidChoicesAreAcceptable =
    (d : Declarations) → FitsKinds d → (problem : Problem) → IsProblem d problem → (t : NodeTable) → IsWellMade t → IsTableOf d problem t
    → (class : ℕ → ℕ) (y : Systems) → AreSystems d t class y → (c : Choice)
    → (f : OpId) → IsSumOperator d t f → (constants : List ℕ) (may_be_zero : List Bool) → AreAsked d t class c.tag f (y.columns f) constants may_be_zero
    → IsAcceptable d t class y c f ↔ (IsValid constants may_be_zero (y.basis f) (c.number f)
    × ((k l : ℕ) → IsShared d t class k → IsBound d t class c.tag f k → IsConstant d t class c.tag f l → AreTakenTogether d t class y c f k l → 2 ≤ member_count y c f k))

-- the classes of a state that admits a unifier's partition have one kind each, so that no unifier is lost where other states are passed over
abbrev pub ClassesHaveOneKind : Type 0
ClassesHaveOneKind =
    (d : Declarations) → FitsKinds d → (problem : Problem) → IsProblem d problem → (t : NodeTable) → IsWellMade t → IsTableOf d problem t
    → (u : Substitution) → IsKindUnifier d problem u → (s : State) → IsClosed d t s → Admits s (kernel d u t.nodes) → AreOfOneKind d t (class_of s)

-- a state of a given problem's table whose classes are a partition and have one kind each, with its systems, a possible choice, its plan, and bindings by this
pub record IsPlanned (d : Declarations) (given : Pairs) (first : ℕ) (t : NodeTable) (s : State) (y : Systems) (c : Choice) (next : ℕ) (plan : Plan) (bindings : Bindings) : Type 0 where
  pub good : IsGood d
  pub is_given : IsGiven d given first
  pub well_made : IsWellMade t
  pub table : IsTableOf d (problem_of given) t
  pub closed : IsClosed d t s
  pub partition : IsNodePartition d t (class_of s)
  pub kinds : AreOfOneKind d t (class_of s)
  pub systems : AreSystems d t (class_of s) y
  pub possible : IsPossible d t (class_of s) y c
  pub plan_by : IsPlanBy d t (class_of s) y c first next plan
  pub bindings_by : AreBindingsBy d (problem_of given) (class_at t (class_of s)) plan bindings

-- the bindings are a solved list, so that what they unfold to unifies on kinds
abbrev pub PlannedBindingsAreSolved : Type 0
PlannedBindingsAreSolved =
    (d : Declarations) (given : Pairs) (first : ℕ) (t : NodeTable) (s : State) (y : Systems) (c : Choice) (next : ℕ) (plan : Plan) (bindings : Bindings)
    → IsPlanned d given first t s y c next plan bindings → IsSolvedBy d (problem_of given) (class_at t (class_of s)) plan bindings

-- what the problem's variables unfold to has new variables alone
abbrev pub PlannedBindingsUnfoldToNew : Type 0
PlannedBindingsUnfoldToNew =
    (d : Declarations) (given : Pairs) (first : ℕ) (t : NodeTable) (s : State) (y : Systems) (c : Choice) (next : ℕ) (plan : Plan) (bindings : Bindings)
    → IsPlanned d given first t s y c next plan bindings → UnfoldsToNew d (problem_of given) first next bindings

-- nothing is joined or dropped when bindings are unfolded, so that sizes add up
abbrev pub SizesAddUp : Type 0
SizesAddUp =
    (d : Declarations) (given : Pairs) (first : ℕ) (t : NodeTable) (s : State) (y : Systems) (c : Choice) (next : ℕ) (plan : Plan) (bindings : Bindings)
    → IsPlanned d given first t s y c next plan bindings
    → All (λ b. symbols (unfolds_to d bindings b.0) ≡ size_in (λ x. symbols (unfolds_to d bindings x)) b.1) bindings
