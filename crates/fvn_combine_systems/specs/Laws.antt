-- Laws of sum systems and of values of classes.
use Rattle.std.specs.Prelude.{◌≡◌, ◌↔◌, ℕ, ◌<◌, ◌≤◌, List, length, All}
use Rattle.fvn_terms.specs.declared.plain.OpId.{OpId}
use Rattle.fvn_terms.specs.declared.declarations.Declarations.{Declarations}
use Rattle.fvn_terms.specs.Signature.{axioms, KeepsKinds}
use Rattle.fvn_terms.specs.Substitution.{Substitution}
use Rattle.fvn_terms.specs.Equality.{IsAssociative}
use Rattle.fvn_terms.specs.Unifiers.{Problem}
use Rattle.fvn_forms.specs.Flat.{FlatTerm}
use Rattle.fvn_forms.specs.FitsKinds.{FitsKinds}
use Rattle.fvn_forms.specs.Settled.{Settled}
use Rattle.fvn_lindio.specs.declared.system.System.{System}
use Rattle.fvn_lindio.specs.Systems.{Solves, rows_of}
use Rattle.fvn_combine_nodes.specs.FlatProblems.{IsProblem, plain_pairs}
use Rattle.fvn_combine_nodes.specs.FlatSolving.{FlatPairs, symbols_of_pairs}
use Rattle.fvn_combine_nodes.specs.FlatSumSystems.{IsSumSystem}
use Rattle.fvn_combine_nodes.specs.FlatSolvedLists.{IsKindUnifier}
use Rattle.fvn_combine_nodes.specs.Table.{NodeTable, IsWellMade, IsTableOf}
use Rattle.fvn_combine_nodes.specs.States.{Admits, IsNaming, class_of}
use Rattle.fvn_combine_nodes.specs.Unifiers.{value_at, kernel}
use Rattle.fvn_combine_nodes.specs.Laws.{class_at}
use Rattle.fvn_combine_nodes.specs.declared.state.State.{State}
use Rattle.fvn_combine_systems.specs.NodeSystems.{HoldsArguments, IsNodeSystem}
use Rattle.fvn_combine_systems.specs.Values.{AreValues, Gives, AddUp, AddsNothing, Counts}

-- in the table of a problem, the arguments of subterms are subterms
abbrev pub TablesHoldArguments : Type 0
TablesHoldArguments = (d : Declarations) (problem : Problem) (t : NodeTable) → IsWellMade t → IsTableOf d problem t → HoldsArguments t

-- the table of flat pairs has no more subterms than these have symbols
abbrev pub TablesAreSmall : Type 0
TablesAreSmall = (d : Declarations) (pairs : FlatPairs) (t : NodeTable) → IsTableOf d (plain_pairs pairs) t → length t.subterms ≤ symbols_of_pairs pairs

-- sum systems over the nodes of a problem's table are those of the problem
abbrev pub NodeSystemsAreSumSystems : Type 0
NodeSystemsAreSumSystems =
    (d : Declarations) (problem : Problem) (t : NodeTable) → IsWellMade t → IsTableOf d problem t
    → (class : ℕ → ℕ) (f : OpId) → IsAssociative (axioms d f)
    → (columns : List ℕ) (system : System) → IsNodeSystem t class f columns system → IsSumSystem d problem (class_at t class) f columns system

-- the sums by f add up exactly where, for each flat form, how often it is a summand of the values solves the sum system
abbrev pub CountsSolve : Type 0
CountsSolve =
    (d : Declarations) (t : NodeTable) (class : ℕ → ℕ) (f : OpId) → IsAssociative (axioms d f)
    → (columns : List ℕ) (system : System) → IsNodeSystem t class f columns system
    → (value : ℕ → FlatTerm) → ((k : ℕ) → Settled d (value k)) → AddsNothing d t class f value
    → AddUp d t class f value ↔ ((q : FlatTerm) → (x : List ℕ) × Counts d f value columns (rows_of system) q x × Solves system.columns (rows_of system) x)

-- a unifier on kinds whose partition the state admits gives values to the classes of the state
abbrev pub UnifiersHaveValues : Type 0
UnifiersHaveValues =
    (d : Declarations) → FitsKinds d → (problem : Problem) → IsProblem d problem → (t : NodeTable) → IsWellMade t → IsTableOf d problem t
    → (s : Substitution) → IsKindUnifier d problem s → (r : State) → length r.names ≡ length t.nodes → IsNaming r → Admits r (kernel d s t.nodes)
    → AreValues d t (class_of r) (value_at d s t.nodes)

-- what gives the variables the values of their classes gives each node the value of its class
abbrev pub ValuesAreGiven : Type 0
ValuesAreGiven =
    (d : Declarations) (t : NodeTable) → IsWellMade t → (class : ℕ → ℕ) (value : ℕ → FlatTerm) → AreValues d t class value
    → (s : Substitution) → Gives d t class value s → (i : ℕ) → i < length t.nodes → value_at d s t.nodes i ≡ value (class i)

-- and it is a unifier on kinds where the sides of each pair are in one class
abbrev pub ValuesUnify : Type 0
ValuesUnify =
    (d : Declarations) → FitsKinds d → (problem : Problem) → IsProblem d problem → (t : NodeTable) → IsWellMade t → IsTableOf d problem t
    → (class : ℕ → ℕ) → All (λ p. class p.0 ≡ class p.1) t.sides → (value : ℕ → FlatTerm) → AreValues d t class value
    → (s : Substitution) → KeepsKinds d s → Gives d t class value s → IsKindUnifier d problem s
