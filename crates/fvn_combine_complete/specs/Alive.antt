-- Lists of minimal solutions that leave out none that may stand for a summand.
use Rattle.std.specs.Prelude.{ℕ, List, Contains}
use Rattle.fvn_terms.specs.declared.plain.OpId.{OpId}
use Rattle.fvn_terms.specs.declared.declarations.Declarations.{Declarations}
use Rattle.fvn_lindio.specs.declared.system.System.{System}
use Rattle.fvn_lindio.specs.Systems.{IsMinimal, rows_of}
use Rattle.fvn_combine_nodes.specs.Table.{NodeTable}
use Rattle.fvn_combine_nodes.specs.declared.state.State.{State}
use Rattle.fvn_combine_leaves.specs.Leaves.{IsSumOperator, IsAlive}
use Rattle.fvn_combine_choices.specs.Choosing.{Systems}

module _ (d : Declarations) (t : NodeTable) (s : State) where
  -- the list has all minimal solutions of f's system that are alive
  abbrev pub HasAlive : OpId → (columns : List ℕ) → System → List (List ℕ) → Type 0
  HasAlive f columns system basis = (v : List ℕ) → IsMinimal system.columns (rows_of system) v → IsAlive d t s f columns v → Contains basis v

  -- so it is of each sum operator
  abbrev pub ListsAlive : Systems → Type 0
  ListsAlive y = (f : OpId) → IsSumOperator d t f → HasAlive f (y.columns f) (y.system f) (y.basis f)
