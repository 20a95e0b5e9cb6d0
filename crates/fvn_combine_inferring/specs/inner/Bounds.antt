-- Heads of values, those that make a value a single summand, and marks of classes.
use Rattle.std.specs.Prelude.{◌≡◌, ◌≢◌, ◌⊎◌, ℕ, ◌≤◌, Bool, ◌&&◌, ◌||◌, true, false, nat_eq, List, length, slice_set, slice_index, slice_index_or, Option, Some, None, All}
use Rattle.std.specs.List.{list_any}
use Rattle.fvn_terms.specs.declared.plain.OpId.{OpId}
use Rattle.fvn_terms.specs.declared.declarations.Declarations.{Declarations}
use Rattle.fvn_terms.specs.Signature.{axioms}
use Rattle.fvn_terms.specs.Equality.{identity}
use Rattle.fvn_forms.specs.Flat.{FlatTerm}
use Rattle.fvn_flat.specs.Forms.{head_of}
use Rattle.fvn_combine_nodes.specs.Table.{NodeTable}
use Rattle.fvn_combine_nodes.specs.States.{class_of}
use Rattle.fvn_combine_nodes.specs.declared.state.State.{State}
use Rattle.fvn_combine_inferring.specs.Sorted.{GoWithSorts}
use Rattle.fvn_combine_inferring.specs.Inferred.{HaveTwoValues}
use Rattle.fvn_combine_inferring.specs.Rows.{many, HasSummand}

-- one of the pairs has its nodes in classes a and b
abbrev pub is_kept : (names : List ℕ) → ℕ → ℕ → List (ℕ × ℕ) → Bool
is_kept names a b pairs = list_any (λ p. (nat_eq (slice_index names p.0) a && nat_eq (slice_index names p.1) b) || (nat_eq (slice_index names p.0) b && nat_eq (slice_index names p.1) a)) pairs

module _ (d : Declarations) (f : OpId) where
  -- g is neither f nor its identity
  abbrev pub IsOtherHead : OpId → Type 0
  IsOtherHead g = (g ≢ f) × (identity (axioms d f) ≢ Some g)

  -- such an operator is noted of class k
  abbrev pub IsHeadedApart : List (Option OpId) → ℕ → Type 0
  IsHeadedApart heads k = (g : OpId) × (slice_index_or heads k None ≡ Some g) × IsOtherHead g

  -- g is such an operator, and noted of class k
  abbrev pub IsNotedApart : List (Option OpId) → ℕ → OpId → Type 0
  IsNotedApart heads k g = (slice_index_or heads k None ≡ Some g) × IsOtherHead g

  -- so it is of class k, or of class l
  abbrev pub IsNotedOfEither : List (Option OpId) → (k l : ℕ) → OpId → Type 0
  IsNotedOfEither heads k l g = IsNotedApart heads k g ⊎ IsNotedApart heads l g

module _ (d : Declarations) (t : NodeTable) (s : State) (sorted : Bool) where
  -- one of both operators heads the value of the class of node k, whatever values go with the state
  abbrev pub HasEitherHead : ℕ → OpId × OpId → Type 0
  HasEitherHead k p = (values : ℕ → FlatTerm) → GoWithSorts d t s sorted values → (head_of (values (class_of s k)) ≡ Some p.0) ⊎ (head_of (values (class_of s k)) ≡ Some p.1)

  -- whatever values go with the state, where that of the class of node k has a summand, that of the class of node i is the
  -- same, or has two
  abbrev pub IsAddedLast : OpId → (i k : ℕ) → Type 0
  IsAddedLast f i k = (values : ℕ → FlatTerm) → GoWithSorts d t s sorted values → 1 ≤ many d s f values k → (2 ≤ many d s f values i) ⊎ (values (class_of s i) ≡ values (class_of s k))

  -- whatever values go with the state, that of the class of node k has two summands
  abbrev pub HasTwoSummands : OpId → ℕ → Type 0
  HasTwoSummands f k = (values : ℕ → FlatTerm) → GoWithSorts d t s sorted values → 2 ≤ many d s f values k

  -- the class of node k has a summand, and another value than that of node i
  pub record IsPart (f : OpId) (k i : ℕ) : Type 0 where
    pub some : HasSummand d t s sorted f k
    pub other : HaveTwoValues d t s sorted k i

  -- the classes of both nodes have a summand
  pub record HaveSummands (f : OpId) (a b : ℕ) : Type 0 where
    pub first : HasSummand d t s sorted f a
    pub second : HasSummand d t s sorted f b

-- different operators are noted of classes k and l
abbrev pub HaveTwoHeads : List (Option OpId) → ℕ → ℕ → Type 0
HaveTwoHeads heads k l = (f : OpId) × (g : OpId) × (slice_index_or heads k None ≡ Some f) × (slice_index_or heads l None ≡ Some g) × (f ≢ g)

-- neither of two operators is one of two others
abbrev pub AreUnlike : OpId × OpId → OpId × OpId → Type 0
AreUnlike p q = (p.0 ≢ q.0) × (p.0 ≢ q.1) × (p.1 ≢ q.0) × (p.1 ≢ q.1)

-- x is l, or P holds of it
abbrev pub IsItOr : (ℕ → Type 0) → ℕ → ℕ → Type 0
IsItOr P l x = (x ≡ l) ⊎ P x

-- places are marked of which P holds; there are n
pub record AreMarks (n : ℕ) (P : ℕ → Type 0) (marks : List Bool) : Type 0 where
  pub as_many : length marks ≡ n
  pub each : (k : ℕ) → slice_index_or marks k false ≡ true → P k

-- sorts are heeded, and place k is marked
abbrev pub IsMarked : Bool → List Bool → ℕ → Type 0
IsMarked sorted marks k = (sorted ≡ true) × (slice_index_or marks k false ≡ true)

-- there are n places, and none is marked
abbrev pub IsUnmarked : ℕ → List Bool → Type 0
IsUnmarked n marks = (length marks ≡ n) × All (λ b. b ≡ false) marks

-- the marks with place k marked, where it is to be
abbrev pub marked : List Bool → ℕ → Bool → List Bool
marked marks k false = marks
marked marks k true = slice_set marks k true
