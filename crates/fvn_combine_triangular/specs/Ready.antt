-- What the bindings of a choice are made from, and what they promise.
use Rattle.std.specs.Prelude.{◌≡◌, ◌↔◌, ℕ, ◌+◌, ◌*◌, ◌≤◌, List, length, slice_get, Some, All, AllPairs, Contains, ◌≢◌}
use Rattle.fvn_base.specs.declared.limits.TheConstants.{FIRST_FRESH, NEXT_FRESH}
use Rattle.fvn_acunify.specs.declared.limits.TheConstants.{LISTED_SOLUTIONS}
use Rattle.fvn_terms.specs.declared.plain.Var.{Var}
use Rattle.fvn_terms.specs.declared.declarations.Declarations.{Declarations}
use Rattle.fvn_flat.specs.Bindings.{Bindings}
use Rattle.fvn_flat.specs.Solving.{IsGiven, problem_of}
use Rattle.fvn_flat.specs.SolvedLists.{Plan}
use Rattle.fvn_flat.specs.declared.solver.Pairs.{Pairs}
use Rattle.fvn_lindio.specs.declared.system.Solution.{Solution}
use Rattle.fvn_combine_nodes.specs.Table.{NodeTable, IsTableOf}
use Rattle.fvn_combine_nodes.specs.Classes.{IsNodePartition}
use Rattle.fvn_combine_nodes.specs.Laws.{class_at}
use Rattle.fvn_combine_nodes.specs.States.{IsClosed, class_of}
use Rattle.fvn_combine_nodes.specs.declared.state.State.{State}
use Rattle.fvn_combine_nodes.specs.declared.table.Node.TheVariants.{Var as OfVar}
use Rattle.fvn_combine_leaves.specs.declared.reading.Reading.{Reading}
use Rattle.fvn_combine_choices.specs.Choosing.{Systems, Choice}
use Rattle.fvn_combine_choices.specs.Plans.{AreOfOneKind, IsPlanBy, AreBindingsBy}
use Rattle.fvn_combine_unfolding.specs.Sizes.{IsFitting}

-- a state of a given problem's table, whose classes are a partition, and of one kind each
pub record IsReady (d : Declarations) (given : Pairs) (first : ℕ) (t : NodeTable) (s : State) : Type 0 where
  pub is_given : IsGiven d given first
  pub table : IsTableOf d (problem_of given) t
  pub closed : IsClosed d t s
  pub partition : IsNodePartition d t (class_of s)
  pub kinds : AreOfOneKind d t (class_of s)

-- for each sum operator minimal solutions and a number; there are numbers for names and for new variables
pub record AreListed (t : NodeTable) (r : Reading) (bases : List (List Solution)) (numbers : List ℕ) : Type 0 where
  pub basis_each : length bases ≡ length r.sums
  pub number_each : length numbers ≡ length r.sums
  pub few : All (λ basis. length basis ≤ LISTED_SOLUTIONS) bases
  pub room : length t.nodes + LISTED_SOLUTIONS * length r.sums ≤ FIRST_FRESH

-- the variables that are nodes of the table, each once
pub record AreVariablesOf (t : NodeTable) (vars : List Var) : Type 0 where
  pub distinct : AllPairs ◌≢◌ vars
  pub exact : (x : Var) → Contains vars x ↔ ((i : ℕ) × (slice_get t.nodes i ≡ Some (OfVar x)))

-- the bindings are those of a plan of the choice, with new variables from first up to below next
pub record ArePlanned (d : Declarations) (given : Pairs) (first : ℕ) (t : NodeTable) (s : State) (y : Systems) (c : Choice) (bindings : Bindings) : Type 0 where
  pub plan : Plan
  pub next : ℕ
  pub bounded : next ≤ NEXT_FRESH
  pub plan_by : IsPlanBy d t (class_of s) y c first next plan
  pub bindings_by : AreBindingsBy d (problem_of given) (class_at t (class_of s)) plan bindings
  pub fitting : All (IsFitting d) bindings
