-- Wheels of the sum operators that are read, and what is asked of numbers beside them.
use Rattle.std.specs.Prelude.{Bool, true, false, ◌≡◌, ◌⊎◌, ℕ, ◌<◌, List, length, slice_get, slice_index, slice_index_or, [], Some, None, Option, Contains}
use Rattle.fvn_terms.specs.declared.plain.OpId.{OpId}
use Rattle.fvn_terms.specs.declared.declarations.Declarations.{Declarations}
use Rattle.fvn_terms.specs.Signature.{axioms}
use Rattle.fvn_terms.specs.Equality.{identity}
use Rattle.fvn_lindio.specs.declared.system.Solution.{Solution}
use Rattle.fvn_lindio.specs.Systems.{vectors_of}
use Rattle.fvn_acunify.specs.Cursor.{unbounded}
use Rattle.fvn_acunify.specs.ValidChoice.{chosen, IsWithin}
use Rattle.fvn_acunify.specs.declared.theory.ColumnBounds.{ColumnBounds}
use Rattle.fvn_combine_nodes.specs.Table.{NodeTable}
use Rattle.fvn_combine_leaves.specs.declared.reading.Sums.{Sums}
use Rattle.fvn_combine_choices.specs.Binding.{AreAsked}
use Rattle.fvn_combine_admissible.specs.Aliases.{HasNoAlias}
use Rattle.fvn_combine_complete.specs.Neutral.{IsNeutral}
use Rattle.fvn_combine_complete.specs.Vanishing.{TakesIdentity}
use Rattle.fvn_combine_bounds.specs.Bounding.{AreBounds}
use Rattle.fvn_acunify_product.specs.Wheels.{Wheel}

module _ (d : Declarations) (t : NodeTable) (class : ℕ → ℕ) where
  -- the class of column j takes the identity unit of the operator, or the operator is neutral
  abbrev pub TakesAt : Sums → OpId → ℕ → Type 0
  TakesAt e unit j = IsNeutral d e.operator ⊎ TakesIdentity d t class e.operator unit (slice_index e.columns j)

  -- the columns of which that is not so
  pub record AreOthers (e : Sums) (unit : OpId) (others : List ℕ) : Type 0 where
    pub exact : (j : ℕ) → Contains others j → (j < length e.columns) × (TakesAt e unit j → ⊥)
    pub rest : (j : ℕ) → j < length e.columns → Contains others j ⊎ TakesAt e unit j

  -- where the operator has an identity, full choices alone are listed, with these other columns
  abbrev pub IsFullFor : Sums → Option (List ℕ) → Type 0
  IsFullFor e None = identity (axioms d e.operator) ≡ None
  IsFullFor e (Some others) = (unit : OpId) × (identity (axioms d e.operator) ≡ Some unit) × AreOthers e unit others

module _ (d : Declarations) (t : NodeTable) (class : ℕ → ℕ) (tag : ℕ → Option OpId) where
  -- the wheel goes over these minimal solutions, with what is asked of them under the tags; it has full choices alone, where the operator has an identity
  pub record IsWheel (e : Sums) (basis : List Solution) (w : Wheel) : Type 0 where
    pub over : w.basis ≡ basis
    pub asked : AreAsked d t class tag e.operator e.columns w.constants w.may_be_zero
    pub full : IsFullFor d t class e w.full

  -- so does one wheel for each sum operator
  pub record AreWheels (sums : List Sums) (bases : List (List Solution)) (wheels : List Wheel) : Type 0 where
    pub as_many : length wheels ≡ length sums
    pub each : (i : ℕ) (e : Sums) (w : Wheel) → slice_get sums i ≡ Some e → slice_get wheels i ≡ Some w → IsWheel e (slice_index_or bases i []) w

  -- the solutions that these numbers take, one for each sum operator, make no shared class a sum of a constant alone
  abbrev pub LeaveNoAlias : List Sums → List (List Solution) → List ℕ → Type 0
  LeaveNoAlias sums bases numbers =
      (i : ℕ) (e : Sums) → slice_get sums i ≡ Some e
      → HasNoAlias d t class tag e.operator e.columns (chosen (slice_index numbers i) (vectors_of (slice_index_or bases i [])))

module _ (d : Declarations) (t : NodeTable) (class : ℕ → ℕ) (sorted : Bool) where
  -- the bounds are what sorts ask of the operator's columns, where sorts are heeded, and else there are none
  pub record HasBounds (e : Sums) (bounds : ColumnBounds) : Type 0 where
    pub heeded : sorted ≡ true → AreBounds d t class e bounds
    pub none : sorted ≡ false → bounds ≡ unbounded

  -- the wheel of each sum operator has such bounds
  abbrev pub HaveBounds : List Sums → List Wheel → Type 0
  HaveBounds sums wheels =
      (i : ℕ) (e : Sums) (w : Wheel) → slice_get sums i ≡ Some e → slice_get wheels i ≡ Some w → HasBounds e w.bounds

-- these numbers, one for each wheel, keep within its bounds
abbrev pub AreWithin : List Wheel → List ℕ → Type 0
AreWithin wheels numbers =
    (i : ℕ) (w : Wheel) → slice_get wheels i ≡ Some w → IsWithin w.bounds (vectors_of w.basis) (slice_index numbers i)
