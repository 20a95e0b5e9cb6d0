-- What is decided of the nodes of a table: classes so far, and pairs that are kept apart.
use Rattle.std.specs.Prelude.{◌≡◌, ◌≢◌, ℕ, ◌+◌, ◌<◌, ◌≤◌, zero, suc, Bool, not, ◌&&◌, ◌||◌, nat_eq, IsTrue, length, slice_index, All}
use Rattle.std.specs.List.{list_any}
use Rattle.fvn_terms.specs.declared.declarations.Declarations.{Declarations}
use Rattle.fvn_forms.specs.InOrder.{one_if}
use Rattle.fvn_combine_nodes.specs.Table.{NodeTable}
use Rattle.fvn_combine_nodes.specs.Classes.{IsPartitionBut, IsNodePartition}
use Rattle.fvn_combine_nodes.specs.declared.state.State.{State}

-- the node that names the class of node i
abbrev pub class_of : State → ℕ → ℕ
class_of s i = slice_index s.names i

-- whether two nodes are in one class
abbrev pub is_same : State → ℕ → ℕ → Bool
is_same s i j = nat_eq (class_of s i) (class_of s j)

-- whether the classes of two nodes are kept apart
abbrev pub is_apart : State → ℕ → ℕ → Bool
is_apart s i j = list_any (λ p. (is_same s p.0 i && is_same s p.1 j) || (is_same s p.0 j && is_same s p.1 i)) s.apart

-- whether two nodes are neither in one class nor kept apart
abbrev pub is_open : State → ℕ → ℕ → Bool
is_open s i j = not (is_same s i j || is_apart s i j)

-- two nodes are neither in one class nor kept apart
abbrev pub IsOpen : State → ℕ → ℕ → Type 0
IsOpen s i j = IsTrue (is_open s i j)

-- f of each number below n, together
abbrev pub sum_below : (ℕ → ℕ) → ℕ → ℕ
sum_below f zero = 0
sum_below f (suc n) = f n + sum_below f n

-- the number of pairs of nodes that are open
abbrev pub open_pairs : State → ℕ
open_pairs s = sum_below (λ i. sum_below (λ j. one_if (is_open s i j)) (length s.names)) (length s.names)

-- the classes have together what the state has together, and apart what it keeps apart
pub record Admits (s : State) (class : ℕ → ℕ) : Type 0 where
  pub together : (i : ℕ) → i < length s.names → class i ≡ class (class_of s i)
  pub apart : All (λ p. class p.0 ≢ class p.1) s.apart

-- each class has a member as its name, with no number above those of the others; nodes are kept apart
pub record IsNaming (s : State) : Type 0 where
  pub named : (i : ℕ) → i < length s.names → (class_of s i ≤ i) × (class_of s (class_of s i) ≡ class_of s i)
  pub kept : All (λ p. (p.0 < length s.names) × (p.1 < length s.names)) s.apart

module _ (d : Declarations) (t : NodeTable) where
  -- the classes are a partition, but for commutative nodes whose arguments are open, and nothing that is kept apart is in one class
  pub record IsClosed (s : State) : Type 0 where
    pub whole : length s.names ≡ length t.nodes
    pub naming : IsNaming s
    pub partition : IsPartitionBut d (IsOpen s) (class_of s) t
    pub apart : All (λ p. class_of s p.0 ≢ class_of s p.1) s.apart

  -- no partition has what the state has
  abbrev pub IsImpossible : State → Type 0
  IsImpossible s = (class : ℕ → ℕ) → IsNodePartition d t class → Admits s class → ⊥
