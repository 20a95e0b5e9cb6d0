-- Laws of values that go with a state.
use Rattle.std.specs.Prelude.{◌≡◌, Bool, true}
use Rattle.fvn_terms.specs.declared.declarations.Declarations.{Declarations}
use Rattle.fvn_terms.specs.Substitution.{Substitution}
use Rattle.fvn_terms.specs.Unifiers.{Problem}
use Rattle.fvn_forms.specs.Good.{IsGood}
use Rattle.fvn_flat.specs.Problems.{IsProblem, variables_of}
use Rattle.fvn_flat.specs.SolvedLists.{IsKindUnifier}
use Rattle.fvn_combine_nodes.specs.Table.{NodeTable, IsWellMade, IsTableOf}
use Rattle.fvn_combine_nodes.specs.States.{IsClosed, Admits}
use Rattle.fvn_combine_nodes.specs.Unifiers.{value_at, kernel}
use Rattle.fvn_combine_nodes.specs.declared.state.State.{State}
use Rattle.fvn_combine_bounds.specs.Narrow.{KeepsSorts}
use Rattle.fvn_combine_inferring.specs.Sorted.{GoWithSorts}

-- the values of a unifier on kinds go with each closed state that admits its partition; and where it gives the problem's
-- variables terms of their sorts, their summands are as these have them
abbrev pub SortedUnifiersGoWith : Type 0
SortedUnifiersGoWith =
    (d : Declarations) → IsGood d → (problem : Problem) → IsProblem d problem
    → (t : NodeTable) → IsWellMade t → IsTableOf d problem t
    → (s : State) → IsClosed d t s
    → (u : Substitution) → IsKindUnifier d problem u → Admits s (kernel d u t.nodes)
    → (sorted : Bool) → (sorted ≡ true → KeepsSorts d (variables_of problem) u)
    → GoWithSorts d t s sorted (value_at d u t.nodes)
