-- Laws of loose classes.
use Rattle.std.specs.Prelude.{◌≡◌, ◌≢◌, ℕ, Bool, true, List, All}
use Rattle.fvn_terms.specs.declared.plain.Var.{Var}
use Rattle.fvn_terms.specs.declared.declarations.Declarations.{Declarations}
use Rattle.fvn_terms.specs.Substitution.{Substitution}
use Rattle.fvn_terms.specs.Unifiers.{Problem}
use Rattle.fvn_forms.specs.Flat.{fvar}
use Rattle.fvn_forms.specs.Good.{IsGood}
use Rattle.fvn_flat.specs.Problems.{IsProblem, variables_of}
use Rattle.fvn_flat.specs.SolvedLists.{IsKindUnifier}
use Rattle.fvn_combine_nodes.specs.Table.{NodeTable, IsWellMade, IsTableOf}
use Rattle.fvn_combine_nodes.specs.States.{Admits, IsClosed}
use Rattle.fvn_combine_nodes.specs.Unifiers.{value_at, kernel}
use Rattle.fvn_combine_nodes.specs.declared.state.State.{State}
use Rattle.fvn_combine_loose.specs.MoreGeneral.{KeepsSorts, IsMoreGeneral}
use Rattle.fvn_combine_loose.specs.Loose.{IsLooseClass, AreParted}

-- v unifies on kinds, is more general than u, and has all that the state has decided
pub record IsLoosened (d : Declarations) (problem : Problem) (t : NodeTable) (s : State) (u v : Substitution) : Type 0 where
  pub unifies : IsKindUnifier d problem v
  pub more_general : IsMoreGeneral d (variables_of problem) u v
  pub admits : Admits s (kernel d v t.nodes)

-- where for each of these pairs a loose class stands in one of its two classes alone, each unifier of the state, which keeps sorts where
-- these are heeded, has a more general one under which the two classes of each pair are apart
abbrev pub LooseClassesPart : Type 0
LooseClassesPart =
    (d : Declarations) → IsGood d → (problem : Problem) → IsProblem d problem → (t : NodeTable) → IsWellMade t → IsTableOf d problem t
    → (s : State) → IsClosed d t s → (sorted : Bool) → (pairs : List (ℕ × ℕ)) → All (λ p. AreParted d t s sorted p.0 p.1) pairs
    → (u : Substitution) → IsKindUnifier d problem u → Admits s (kernel d u t.nodes) → (sorted ≡ true → KeepsSorts d (variables_of problem) u)
    → (v : Substitution) × IsLoosened d problem t s u v × All (λ p. kernel d v t.nodes p.0 ≢ kernel d v t.nodes p.1) pairs

-- the values of these nodes under v are variables
abbrev pub AreVariables : Declarations → NodeTable → List ℕ → Substitution → Type 0
AreVariables d t nodes v = All (λ z. (x : Var) × (value_at d v t.nodes z ≡ fvar x)) nodes

-- where these nodes are of loose classes, each unifier of the state has a more general one under which their values are variables
abbrev pub LooseClassesAreVariables : Type 0
LooseClassesAreVariables =
    (d : Declarations) → IsGood d → (problem : Problem) → IsProblem d problem → (t : NodeTable) → IsWellMade t → IsTableOf d problem t
    → (s : State) → IsClosed d t s → (nodes : List ℕ) → All (IsLooseClass d t s) nodes
    → (u : Substitution) → IsKindUnifier d problem u → Admits s (kernel d u t.nodes)
    → (v : Substitution) × IsLoosened d problem t s u v × AreVariables d t nodes v

-- each substitution is more general than itself, and what is more general than a more general one is so
pub record MoreGeneralIsAPreorder : Type 0 where
  pub itself : (d : Declarations) → IsGood d → (problem : Problem) → IsProblem d problem → (u : Substitution) → IsMoreGeneral d (variables_of problem) u u
  pub after : (d : Declarations) → IsGood d → (problem : Problem) → IsProblem d problem → (u v w : Substitution) → IsMoreGeneral d (variables_of problem) u v → IsMoreGeneral d (variables_of problem) v w → IsMoreGeneral d (variables_of problem) u w
