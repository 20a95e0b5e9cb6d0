-- The search for unifiers on kinds, and what is still to come of them.
use Rattle.std.specs.Prelude.{◌≡◌, ◌≢◌, ◌⊎◌, ℕ, ◌<◌, List, [], ◌∷◌, ◌++◌, length, Option, Some, None, Any}
use Rattle.fvn_terms.specs.declared.plain.OpId.{OpId}
use Rattle.fvn_terms.specs.Substitution.{Substitution}
use Rattle.fvn_lindio.specs.declared.system.System.{System}
use Rattle.fvn_flat.specs.Solving.{IsBasisCause, IsRefused, IsTooLarge}
use Rattle.fvn_combine_nodes.specs.States.{Admits, class_of}
use Rattle.fvn_combine_tree.specs.Trees.{AreClosed, AreInOrder}
use Rattle.fvn_combine_nodes.specs.Unifiers.{kernel}
use Rattle.fvn_combine_nodes.specs.declared.state.State.{State}
use Rattle.fvn_combine_systems.specs.NodeSystems.{IsNodeSystem}
use Rattle.fvn_combine_leaves.specs.Leaves.{IsFullLeaf}
use Rattle.fvn_combine.specs.Tasks.{Combining, IsCombining, HoldsFor}
use Rattle.fvn_combine.specs.Leaves.{IsOpened, IsCoveredToCome}
use Rattle.fvn_combine.specs.declared.opened.Leaf.{Leaf}
use Rattle.fvn_combine.specs.declared.ending.Ended.{Ended}
use Rattle.fvn_combine.specs.declared.ending.Ended.TheVariants.{Basis, Size}

-- what is combined, the states that are still to be looked at, the leaf that is open, and why the search has ended
pub record Search : Type 0 where
  pub combining : Combining
  pub states : List State
  pub leaf : Option Leaf
  pub ended : Option Ended

-- the cause holds: a sum system of the problem under a partition is refused, or a solved list of the problem unfolds to too many symbols
abbrev pub IsEnd : Combining → Ended → Type 0
IsEnd k (Basis f system) = IsBasisCause k.declarations k.given f system
IsEnd k (Size list) = IsTooLarge k.declarations k.given k.size list.bindings

-- no question is open in the state, whatever the minimal solutions are, and the system, which is f's sum system under its classes, is refused
pub record IsRefusedAt (k : Combining) (s : State) (f : OpId) (system : System) : Type 0 where
  pub leaf : IsFullLeaf k.declarations k.table s
  pub columns : List ℕ
  pub is_system : IsNodeSystem k.table (class_of s) f columns system
  pub refused : IsRefused system

-- the classes have apart two nodes that the state has together
pub record PartsNodesOf (s : State) (class : ℕ → ℕ) : Type 0 where
  pub first : ℕ
  pub second : ℕ
  pub first_within : first < length s.names
  pub second_within : second < length s.names
  pub together : class_of s first ≡ class_of s second
  pub apart : class first ≢ class second

-- the classes have all that is decided in the state, or have apart two nodes that the state has together
abbrev pub AdmitsOrIsParted : State → (ℕ → ℕ) → Type 0
AdmitsOrIsParted s class = Admits s class ⊎ PartsNodesOf s class

-- some state admits u's partition
abbrev pub IsAdmitted : Combining → List State → Substitution → Type 0
IsAdmitted k states u = Any (λ s. Admits s (kernel k.declarations u k.table.nodes)) states

-- so it is in the last of the states; those before it admit only what has apart two nodes that this one has together
pub record IsRefusedAtLast (k : Combining) (states : List State) (f : OpId) (system : System) : Type 0 where
  pub below : List State
  pub last : State
  pub is : states ≡ below ++ last ∷ []
  pub refused : IsRefusedAt k last f system
  pub coarser_first : (u : Substitution) → IsAdmitted k states u → AdmitsOrIsParted last (kernel k.declarations u k.table.nodes)

-- where a sum system is refused, no question is open in the state at which the search ends
abbrev pub HasNoQuestion : Combining → List State → Ended → Type 0
HasNoQuestion k states (Basis f system) = IsRefusedAtLast k states f system
HasNoQuestion k states (Size list) = Unit {0}

-- the leaf is open, if there is one
abbrev pub IsOpenedAt : Combining → Option Leaf → Type 0
IsOpenedAt k None = Unit {0}
IsOpenedAt k (Some w) = IsOpened k w.state w.opened

-- all states are closed and in order, the leaf is open, and what ended the search is so
pub record IsSearch (m : Search) : Type 0 where
  pub combining : IsCombining m.combining
  pub closed : AreClosed m.combining.declarations m.combining.table m.states
  pub ordered : AreInOrder m.states
  pub opened : IsOpenedAt m.combining m.leaf
  pub end : (e : Ended) → m.ended ≡ Some e → IsEnd m.combining e

-- the leaf's state admits u's partition, and a choice of the leaf that is still to come covers u
abbrev pub IsCoveredAt : Combining → Option Leaf → Substitution → Type 0
IsCoveredAt k None u = ⊥
IsCoveredAt k (Some w) u = Admits w.state (kernel k.declarations u k.table.nodes) × IsCoveredToCome k w.state w.opened u

-- no choice of the leaf that is still to come covers anything
abbrev pub HasNoChoice : Combining → Option Leaf → Type 0
HasNoChoice k leaf = (u : Substitution) → IsCoveredAt k leaf u → ⊥

-- so it is where a sum system is refused
abbrev pub HasNoChoiceAt : Combining → Option Leaf → Ended → Type 0
HasNoChoiceAt k leaf (Basis f system) = HasNoChoice k leaf
HasNoChoiceAt k leaf (Size list) = Unit {0}

-- some state admits u's partition, or the leaf that is open covers u
abbrev pub IsLeft : Combining → List State → Option Leaf → Substitution → Type 0
IsLeft k states leaf u = IsAdmitted k states u ⊎ IsCoveredAt k leaf u

-- one that stands for u is still to come: u itself, or where more general ones are enough such a one
abbrev pub Pending : Search → Substitution → Type 0
Pending m u = HoldsFor m.combining (IsLeft m.combining m.states m.leaf) u
