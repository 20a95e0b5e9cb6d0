-- What the lists of a reading and of tags tell of classes and columns.
use Rattle.std.specs.Prelude.{◌≡◌, ◌≢◌, ◌⊎◌, ◌↔◌, ℕ, ◌%◌, ◌==◌, ◌<◌, ◌≤◌, Bool, true, false, if◌then◌else◌, List, [], ◌∷◌, length, slice_index, slice_index_or, Option, Some, None, AllPairs, Contains}
use Rattle.fvn_terms.specs.declared.plain.OpId.{OpId}
use Rattle.fvn_terms.specs.declared.declarations.Declarations.{Declarations}
use Rattle.fvn_terms.specs.Signature.{axioms}
use Rattle.fvn_flat.specs.Partitions.{HasNoIdentity}
use Rattle.fvn_acunify.specs.ValidChoice.{column_sum}
use Rattle.fvn_combine_leaves.specs.declared.reading.Sums.{Sums}
use Rattle.fvn_combine_leaves.specs.declared.reading.Reading.{Reading}
use Rattle.fvn_combine_leaves.specs.Users.{IsMarked, HasTwoUsers, HasTwinIn, IsSharedIn, head_of}
use Rattle.fvn_combine_admissible.specs.Listed.{tag_in}

-- why class k is bound to a sum of the operator, with this head
abbrev pub IsBoundUnder : Reading → List (Option OpId) → Sums → ℕ → Option OpId → Type 0
IsBoundUnder r tags s k None = IsMarked s k × ((HasTwoUsers r.sums k → ⊥) ⊎ (HasTwoUsers r.sums k × (tag_in tags k ≡ Some s.operator)))
IsBoundUnder r tags s k (Some g) = g ≡ s.operator

-- class k is bound to a sum of the operator
abbrev pub IsBoundIn : Reading → List (Option OpId) → Sums → ℕ → Type 0
IsBoundIn r tags s k = IsBoundUnder r tags s k (head_of r k)

-- column j is used, and its class is not bound to a sum of the operator
abbrev pub IsConstantAt : Reading → List (Option OpId) → Sums → ℕ → Type 0
IsConstantAt r tags s j = (slice_index_or s.used j false ≡ true) × (IsBoundIn r tags s (slice_index s.columns j) → ⊥)

-- the columns before this one that are so
pub record AreConstantsBelow (r : Reading) (tags : List (Option OpId)) (s : Sums) (i : ℕ) (list : List ℕ) : Type 0 where
  pub distinct : AllPairs ◌≢◌ list
  pub exact : (j : ℕ) → Contains list j ↔ ((j < i) × IsConstantAt r tags s j)

-- all columns that are so
abbrev pub AreConstantsOf : Reading → List (Option OpId) → Sums → List ℕ → Type 0
AreConstantsOf r tags s list = AreConstantsBelow r tags s (length s.columns) list

-- the sum of the operator to which class k is bound has a member: the operator has no identity, or another one that uses the class has the same
abbrev pub IsRequiredIn : Declarations → Reading → List (Option OpId) → Sums → ℕ → Type 0
IsRequiredIn d r tags s k = IsBoundIn r tags s k × (HasNoIdentity (axioms d s.operator) ⊎ HasTwinIn d r.sums s.operator k)

-- the marks of the columns before this one
pub record AreMarksBelow (d : Declarations) (r : Reading) (tags : List (Option OpId)) (s : Sums) (i : ℕ) (marks : List Bool) : Type 0 where
  pub as_many : length marks ≡ i
  pub exact : (j : ℕ) → j < i → (slice_index_or marks j true ≡ false) ↔ IsRequiredIn d r tags s (slice_index s.columns j)

-- the marks of all columns
abbrev pub AreMarksOf : Declarations → Reading → List (Option OpId) → Sums → List Bool → Type 0
AreMarksOf d r tags s marks = AreMarksBelow d r tags s (length s.columns) marks

-- the vector, where the number is odd
abbrev pub taken_if : ℕ → List ℕ → List (List ℕ)
taken_if b v = if b % 2 == 1 then v ∷ [] else []

-- the vector is other than zero in one of the columns
abbrev pub HasOneOf : List ℕ → List ℕ → Type 0
HasOneOf columns v = (c : ℕ) × Contains columns c × (0 < slice_index v c)

-- one of the vectors is other than zero in column j and in one of the constant columns
abbrev pub IsAloneAt : List ℕ → List (List ℕ) → ℕ → Type 0
IsAloneAt constants vectors j = (v : List ℕ) × Contains vectors v × (0 < slice_index v j) × HasOneOf constants v

-- the class of column j is shared and bound to a sum of the operator, of at most one member, and that a constant
abbrev pub MayBeAliasIn : Reading → List (Option OpId) → Sums → List ℕ → List (List ℕ) → ℕ → Type 0
MayBeAliasIn r tags s constants vectors j =
    (IsSharedIn r (slice_index s.columns j) × IsBoundIn r tags s (slice_index s.columns j))
    × (column_sum j vectors ≤ 1) × IsAloneAt constants vectors j
