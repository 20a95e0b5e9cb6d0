-- Minimal solutions, faults, wheels, users and shared classes in the making.
use Rattle.std.specs.Prelude.{◌≡◌, ◌≢◌, ◌↔◌, ℕ, ◌<◌, ◌≤◌, Bool, List, [], length, slice_get, slice_index_or, Option, Some, All, AllPairs, Contains}
use Rattle.fvn_base.specs.declared.limits.TheConstants.{MINIMAL_SOLUTIONS}
use Rattle.fvn_terms.specs.declared.plain.OpId.{OpId}
use Rattle.fvn_terms.specs.declared.declarations.Declarations.{Declarations}
use Rattle.fvn_lindio.specs.declared.system.System.{System}
use Rattle.fvn_lindio.specs.declared.system.Solution.{Solution}
use Rattle.fvn_flat.specs.Solving.{IsRefused}
use Rattle.fvn_combine_nodes.specs.Table.{NodeTable}
use Rattle.fvn_combine_leaves.specs.declared.reading.Sums.{Sums}
use Rattle.fvn_combine_leaves.specs.Leaves.{IsShared}
use Rattle.fvn_acunify_product.specs.Wheels.{Wheel}
use Rattle.fvn_combine_candidates.specs.declared.opening.OpenFault.{OpenFault}
use Rattle.fvn_combine_candidates.specs.declared.opening.OpenFault.TheVariants.{Basis, NoMemory}
use Rattle.fvn_combine_candidates.specs.declared.sharing.SharedClass.{SharedClass}
use Rattle.fvn_combine_candidates.specs.Sharing.{classes_of, MayBeSum, IsSharedClass}
use Rattle.fvn_combine_candidates.specs.Turning.{IsWheel, HasBounds}
use Rattle.fvn_combine_candidates.specs.inner.Alive.{IsWholeBasis}

-- why there is no basis of a sum operator's system
abbrev pub IsFaultOf : Sums → OpenFault → Type 0
IsFaultOf e (Basis f system) = (e.operator ≡ f) × (e.system ≡ system) × IsRefused system
IsFaultOf e NoMemory = Unit {0}

-- all minimal solutions of a system that is not refused, and few
pub record IsKeptBasis (s : System) (basis : List Solution) : Type 0 where
  pub whole : IsWholeBasis s basis
  pub few : length basis ≤ MINIMAL_SOLUTIONS
  pub kept : IsRefused s → ⊥

-- such lists of the sum operators before this place
pub record AreBasesBelow (P : Sums → List Solution → Type 0) (sums : List Sums) (n : ℕ) (bases : List (List Solution)) : Type 0 where
  pub as_many : length bases ≡ n
  pub each : (i : ℕ) (e : Sums) → i < n → slice_get sums i ≡ Some e → P e (slice_index_or bases i [])

-- few minimal solutions of each sum operator, whose systems are not refused
abbrev pub AreKeptBases : List Sums → List (List Solution) → Type 0
AreKeptBases sums bases = AreBasesBelow (λ e. IsKeptBasis e.system) sums (length sums) bases

module _ (d : Declarations) (t : NodeTable) (class : ℕ → ℕ) (tag : ℕ → Option OpId) (sorted : Bool) where
  -- the wheel of a sum operator, with its bounds
  abbrev pub IsBoundedWheel : Sums → List Solution → Wheel → Type 0
  IsBoundedWheel e basis w = IsWheel d t class tag e basis w × HasBounds d t class sorted e w.bounds

  -- the wheels of the sum operators before this place
  pub record AreWheelsBelow (sums : List Sums) (bases : List (List Solution)) (n : ℕ) (wheels : List Wheel) : Type 0 where
    pub as_many : length wheels ≡ n
    pub each : (i : ℕ) (e : Sums) (w : Wheel) → i < n → slice_get sums i ≡ Some e → slice_get wheels i ≡ Some w → IsBoundedWheel e (slice_index_or bases i []) w

module _ (d : Declarations) (t : NodeTable) (class : ℕ → ℕ) (sorted : Bool) where
  -- the operator stands before this place and uses class k, whose value may be a sum by it or its identity
  pub record IsUserBelow (sums : List Sums) (k i : ℕ) (f : OpId) : Type 0 where
    pub place : ℕ
    pub before : place < i
    pub entry : Sums
    pub is : slice_get sums place ≡ Some entry
    pub operator : entry.operator ≡ f
    pub may : MayBeSum d t class sorted f k

  -- the operators that do so, each once
  pub record AreUsersBelow (sums : List Sums) (k i : ℕ) (users : List OpId) : Type 0 where
    pub distinct : AllPairs ◌≢◌ users
    pub exact : (f : OpId) → Contains users f ↔ IsUserBelow sums k i f
    pub few : length users ≤ i

  -- the shared classes that nodes before this one name
  pub record AreSharedBelow (most n : ℕ) (list : List SharedClass) : Type 0 where
    pub each : All (IsSharedClass d t class sorted) list
    pub distinct : AllPairs ◌≢◌ (classes_of list)
    pub below : All (λ k. k < n) (classes_of list)
    pub every : (k : ℕ) → k < n → IsShared d t class k → Contains (classes_of list) k
    pub few : All (λ (c : SharedClass). length c.users ≤ most) list
