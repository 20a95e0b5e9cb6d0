-- Questions that are past.
use Rattle.std.specs.Prelude.{◌≡◌, ◌⊎◌, ℕ, ◌<◌, List, length, Option, Some, None, All}
use Rattle.fvn_terms.specs.declared.plain.OpId.{OpId}
use Rattle.fvn_terms.specs.declared.declarations.Declarations.{Declarations}
use Rattle.fvn_combine_nodes.specs.Table.{NodeTable}
use Rattle.fvn_combine_nodes.specs.States.{IsOpen}
use Rattle.fvn_combine_nodes.specs.declared.state.State.{State}
use Rattle.fvn_combine_leaves.specs.declared.reading.Sums.{Sums}
use Rattle.fvn_combine_leaves.specs.declared.reading.Reading.{Reading}
use Rattle.fvn_combine_leaves.specs.Users.{IsMarked, HasTwinIn, CanBeConstant, HaveHeads}

-- it is open whether the two nodes are in one class
abbrev pub IsOpenPair : State → (ℕ × ℕ) → Type 0
IsOpenPair s p = (p.0 < length s.names) × (p.1 < length s.names) × IsOpen s p.0 p.1

-- an open pair of nodes; where there is none, the fact holds
abbrev pub IsOpenPairOr : State → Type 0 → Option (ℕ × ℕ) → Type 0
IsOpenPairOr s P None = P
IsOpenPairOr s P (Some p) = IsOpenPair s p

-- it is not open whether class k has f's identity
abbrev pub IsPastIdentity : NodeTable → State → OpId → ℕ → Type 0
IsPastIdentity t s f k = All (λ p. p.0 ≡ f → IsOpen s k p.1 → ⊥) t.units

module _ (d : Declarations) (t : NodeTable) (s : State) (sums : List Sums) (k : ℕ) where
  -- where the operator uses class k, and another one of the list with its identity does, it is not open whether the class has that
  abbrev pub IsPastUser : Sums → Type 0
  IsPastUser e = IsMarked e k → HasTwinIn d sums e.operator k → IsPastIdentity t s e.operator k

  -- so it is with each operator of the list
  abbrev pub ArePastIdentities : Type 0
  ArePastIdentities = All IsPastUser sums

-- it is not open whether class k is one of these classes, where these may be constants of the operator and have no other head
abbrev pub ArePastClasses : State → Reading → Sums → ℕ → List ℕ → Type 0
ArePastClasses s r e k columns = All (λ l. CanBeConstant r e l → HaveHeads r k l ⊎ (IsOpen s k l → ⊥)) columns

-- nor whether one of these classes is, where it may be a constant
abbrev pub ArePastPairs : State → Reading → Sums → List ℕ → Type 0
ArePastPairs s r e columns = All (λ k. CanBeConstant r e k → ArePastClasses s r e k e.columns) columns
