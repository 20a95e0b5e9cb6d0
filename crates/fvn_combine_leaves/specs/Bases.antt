-- The minimal solutions of the sum operators that are read.
use Rattle.std.specs.Prelude.{◌≡◌, ℕ, ◌≤◌, List, [], length, slice_get, slice_index_or, Some, All, AllPairs, Contains}
use Rattle.fvn_base.specs.declared.limits.TheConstants.{COMPONENT}
use Rattle.fvn_base.specs.Order.{IsBefore}
use Rattle.fvn_terms.specs.declared.declarations.Declarations.{Declarations}
use Rattle.fvn_lindio.specs.declared.system.System.{System}
use Rattle.fvn_lindio.specs.declared.system.Solution.{Solution}
use Rattle.fvn_lindio.specs.Systems.{IsMinimal, rows_of, vectors_of}
use Rattle.fvn_acunify.specs.declared.limits.TheConstants.{LISTED_SOLUTIONS}
use Rattle.fvn_combine_systems.specs.CombineNodesTable.{NodeTable}
use Rattle.fvn_combine_systems.specs.CombineNodesDeclared.state.State.{State}
use Rattle.fvn_combine_leaves.specs.Leaves.{IsAlive}
use Rattle.fvn_combine_leaves.specs.declared.reading.Sums.{Sums}

-- minimal solutions of a system, in lexicographic order, and few enough for choices among them
pub record IsBasis (s : System) (basis : List Solution) : Type 0 where
  pub minimal : (v : List ℕ) → Contains (vectors_of basis) v → IsMinimal s.columns (rows_of s) v
  pub ordered : AllPairs IsBefore (vectors_of basis)
  pub few : length basis ≤ LISTED_SOLUTIONS
  pub narrow : All (All (λ a. a ≤ COMPONENT)) (vectors_of basis)

-- those of each of the sum operators
pub record AreBases (sums : List Sums) (bases : List (List Solution)) : Type 0 where
  pub as_many : length bases ≡ length sums
  pub each : (i : ℕ) (e : Sums) → slice_get sums i ≡ Some e → IsBasis e.system (slice_index_or bases i [])

-- no minimal solution is left out that is alive: one that has two single summands which are told to differ is taken by no choice
abbrev pub HaveAlive : Declarations → NodeTable → State → List Sums → List (List Solution) → Type 0
HaveAlive d t s sums bases = (i : ℕ) (e : Sums) → slice_get sums i ≡ Some e → (v : List ℕ) → IsMinimal e.system.columns (rows_of e.system) v
    → IsAlive d t s e.operator e.columns v → Contains (vectors_of (slice_index_or bases i [])) v
