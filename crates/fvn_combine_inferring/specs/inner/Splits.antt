-- Classes that are replaced by the two classes that a member adds.
use Rattle.std.specs.Prelude.{◌≡◌, ℕ, ◌+◌, ◌<◌, Bool, true, false, List, [], ◌∷◌, ◌++◌, length, sum_by, slice_set, slice_index, slice_index_or, Option, Some, None, All, Any, IfSome}
use Rattle.fvn_terms.specs.declared.plain.OpId.{OpId}
use Rattle.fvn_terms.specs.declared.declarations.Declarations.{Declarations}
use Rattle.fvn_terms.specs.Signature.{axioms}
use Rattle.fvn_terms.specs.Equality.{IsAssociative}
use Rattle.fvn_combine_nodes.specs.Table.{NodeTable, IsOver}
use Rattle.fvn_combine_nodes.specs.States.{class_of}
use Rattle.fvn_combine_nodes.specs.declared.state.State.{State}
use Rattle.fvn_combine_bounds.specs.Narrow.{IsNarrow, IsNeverIdentity}
use Rattle.fvn_combine_inferring.specs.declared.expressions.Addition.{Addition}
use Rattle.fvn_combine_inferring.specs.declared.rows.Row.{Row}
use Rattle.fvn_combine_inferring.specs.inner.Bounds.{AreMarks}

-- node n is the identity of f
abbrev pub IsUnitNode : NodeTable → OpId → ℕ → Type 0
IsUnitNode t f n = Any (λ p. (p.0 ≡ f) × (p.1 ≡ n)) t.units

module _ (t : NodeTable) (s : State) (f : OpId) where
  -- a member of class k is the sum by f of two nodes of these classes
  pub record IsSplit (k : ℕ) (p : ℕ × ℕ) : Type 0 where
    pub member : ℕ
    pub left : ℕ
    pub right : ℕ
    pub over : IsOver t.nodes member f (left ∷ right ∷ [])
    pub of : class_of s member ≡ k
    pub first : class_of s left ≡ p.0
    pub second : class_of s right ≡ p.1

  -- for each node a split of the class that it names, if one is noted
  pub record AreSplits (splits : List (Option (ℕ × ℕ))) : Type 0 where
    pub as_many : length splits ≡ length t.nodes
    pub each : (k : ℕ) (p : ℕ × ℕ) → slice_index_or splits k None ≡ Some p → IsSplit k p

  -- the number is the class of f's identity
  abbrev pub IsUnitClass : ℕ → Type 0
  IsUnitClass e = (n : ℕ) × IsUnitNode t f n × (n < length t.nodes) × (class_of s n ≡ e)

-- there are places for n splits, and none is noted
abbrev pub IsUnsplit : ℕ → List (Option (ℕ × ℕ)) → Type 0
IsUnsplit n splits = (length splits ≡ n) × All (λ o. o ≡ None) splits

-- the splits with that of class k, where there is one
abbrev pub noted : List (Option (ℕ × ℕ)) → ℕ → Option (ℕ × ℕ) → List (Option (ℕ × ℕ))
noted splits k None = splits
noted splits k (Some p) = slice_set splits k (Some p)

-- what is known of the sums by an operator at a state: the class of its identity, splits of classes, and which the sorts of
-- their variables make narrow, or never the identity
pub record IsAddition (d : Declarations) (t : NodeTable) (s : State) (a : Addition) : Type 0 where
  pub associative : IsAssociative (axioms d a.operator)
  pub unit : IfSome a.unit (IsUnitClass t s a.operator)
  pub splits : AreSplits t s a.operator a.splits
  pub narrow : AreMarks (length t.nodes) (IsNarrow d t (class_of s) a.operator) a.narrow
  pub other : AreMarks (length t.nodes) (IsNeverIdentity d t (class_of s) a.operator) a.other

module _ (splits : List (Option (ℕ × ℕ))) where
  -- a class weighs what it is split into
  abbrev pub IsAdditive : (ℕ → ℕ) → Type 0
  IsAdditive w = (k : ℕ) (p : ℕ × ℕ) → slice_index_or splits k None ≡ Some p → w k ≡ w p.0 + w p.1

  -- both classes of a split are among those that have a place
  abbrev pub AreWithin : Type 0
  AreWithin = (k : ℕ) (p : ℕ × ℕ) → slice_index_or splits k None ≡ Some p → (p.0 < length splits) × (p.1 < length splits)

  -- the class at this place made way for the two of its split; or it has none, and nothing changed
  abbrev pub IsSplitPlace : (before after : List ℕ) → ℕ → Bool → Type 0
  IsSplitPlace before after place true = (p : ℕ × ℕ) × (slice_index_or splits (slice_index before place) None ≡ Some p) × (after ≡ slice_set (before ++ p.1 ∷ []) place p.0)
  IsSplitPlace before after place false = after ≡ before

  -- the classes of the list weigh together what class k weighs
  pub record IsExpression (k : ℕ) (list : List ℕ) : Type 0 where
    pub weight : (w : ℕ → ℕ) → IsAdditive w → sum_by w list ≡ w k
    pub below : All (λ i. i < length splits) list

  -- they weigh together what classes a and b weigh
  pub record IsSum (a b : ℕ) (list : List ℕ) : Type 0 where
    pub weight : (w : ℕ → ℕ) → IsAdditive w → sum_by w list ≡ w a + w b
    pub below : All (λ i. i < length splits) list

  -- where class k weighs what a and b weigh, and the identity nothing, both sides of the row weigh the same
  pub record IsReduced (unit : Option ℕ) (k a b : ℕ) (row : Row) : Type 0 where
    pub weight : (w : ℕ → ℕ) → IsAdditive w → IfSome unit (λ e. w e ≡ 0) → w k ≡ w a + w b → sum_by w row.left.items ≡ sum_by w row.right.items
    pub left : All (λ i. i < length splits) row.left.items
    pub right : All (λ i. i < length splits) row.right.items
