-- Classes that have a summand for sure, and that no solution has which may stand for one.
use Rattle.std.specs.Prelude.{◌≡◌, ◌⊎◌, ℕ, ◌<◌, List, [], length, slice_get, slice_index, slice_index_or, Some, All}
use Rattle.fvn_terms.specs.declared.plain.OpId.{OpId}
use Rattle.fvn_terms.specs.declared.declarations.Declarations.{Declarations}
use Rattle.fvn_terms.specs.Signature.{axioms}
use Rattle.fvn_flat.specs.Partitions.{HasNoIdentity}
use Rattle.fvn_lindio.specs.declared.system.Solution.{Solution}
use Rattle.fvn_combine_nodes.specs.declared.state.State.{State}
use Rattle.fvn_combine_leaves.specs.declared.reading.Sums.{Sums}
use Rattle.fvn_combine_leaves.specs.declared.reading.Reading.{Reading}
use Rattle.fvn_combine_leaves.specs.Users.{IsMarked}
use Rattle.fvn_combine_questions.specs.inner.Touched.{IsOneSummandIn, IsDead}

-- class k is one summand in the sums of the operator, or this has no identity
abbrev pub HasSummandIn : Declarations → Reading → Sums → (noted : OpId → ℕ → Type 0) → ℕ → Type 0
HasSummandIn d r e noted k = IsOneSummandIn r e noted k ⊎ HasNoIdentity (axioms d e.operator)

-- the operator uses class k, which has a summand for sure
pub record IsNeededIn (d : Declarations) (r : Reading) (e : Sums) (noted : OpId → ℕ → Type 0) (k : ℕ) : Type 0 where
  pub used : IsMarked e k
  pub summand : HasSummandIn d r e noted k

-- each solution that has column i stands for no summand
abbrev pub AreDeadWith : Reading → Sums → State → (noted : OpId → ℕ → Type 0) → ℕ → List Solution → Type 0
AreDeadWith r e s noted i basis = All (λ v. 0 < slice_index v.parts i → IsDead r e s noted v) basis

-- so it is with a column whose class has a summand for sure
pub record IsUnfilledIn (d : Declarations) (r : Reading) (e : Sums) (s : State) (noted : OpId → ℕ → Type 0) (basis : List Solution) : Type 0 where
  pub column : ℕ
  pub within : column < length e.columns
  pub needed : IsNeededIn d r e noted (slice_index e.columns column)
  pub dead : AreDeadWith r e s noted column basis

-- of some operator
pub record HasUnfilledIn (d : Declarations) (r : Reading) (s : State) (noted : OpId → ℕ → Type 0) (bases : List (List Solution)) : Type 0 where
  pub place : ℕ
  pub entry : Sums
  pub at : slice_get r.sums place ≡ Some entry
  pub unfilled : IsUnfilledIn d r entry s noted (slice_index_or bases place [])
