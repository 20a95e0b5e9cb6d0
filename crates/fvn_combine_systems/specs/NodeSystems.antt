-- The sum system of an operator over the nodes of a table: what its sums ask of the classes of nodes.
use Rattle.std.specs.Prelude.{◌≡◌, ◌≢◌, ◌↔◌, ℕ, ◌+◌, ℤ, pos, ◌-ℤ◌, Bool, false, nat_eq, if◌then◌else◌, List, [], ◌∷◌, map, filter, length, slice_get, Option, Some, None, All, AllPairs, Any, Contains}
use Rattle.fvn_terms.specs.declared.plain.OpId.{OpId}
use Rattle.fvn_forms.specs.Canon.{same_op}
use Rattle.fvn_forms.specs.InOrder.{one_if}
use Rattle.fvn_lindio.specs.declared.system.System.{System}
use Rattle.fvn_lindio.specs.Systems.{rows_of}
use Rattle.fvn_combine_nodes.specs.Table.{NodeTable, IsOver}
use Rattle.fvn_combine_nodes.specs.declared.table.Node.{Node}
use Rattle.fvn_combine_nodes.specs.declared.table.Node.TheVariants.{Var, App}

-- whether f heads the node
abbrev pub is_headed : OpId → Option Node → Bool
is_headed f None = false
is_headed f (Some (Var x)) = false
is_headed f (Some (App g ks)) = same_op f g

-- two nodes, where there are two
abbrev pub pair : List ℕ → Option (ℕ × ℕ)
pair [] = None
pair (a ∷ []) = None
pair (a ∷ b ∷ []) = Some (a, b)
pair (a ∷ b ∷ c ∷ ks) = None

-- the two arguments of a node that f heads
abbrev pub addends : OpId → Option Node → Option (ℕ × ℕ)
addends f None = None
addends f (Some (Var x)) = None
addends f (Some (App g ks)) = if same_op f g then pair ks else None

-- the arguments of a subterm are subterms
abbrev pub HoldsArguments : NodeTable → Type 0
HoldsArguments t = (i : ℕ) (f : OpId) (ks : List ℕ) → Contains t.subterms i → IsOver t.nodes i f ks → All (Contains t.subterms) ks

-- the subterms that f heads, in the order in which they begin
abbrev pub sums : NodeTable → OpId → List ℕ
sums t f = filter (λ i. is_headed f (slice_get t.nodes i)) t.subterms

module _ (class : ℕ → ℕ) where
  -- 1 where k is the class of node i, else 0
  abbrev pub stands_in : ℕ → ℕ → ℕ
  stands_in k i = one_if (nat_eq (class i) k)

  -- in the column of k: the arguments of a sum, less the sum itself
  abbrev pub coefficient : ℕ → Option (ℕ × ℕ) → ℕ → ℤ
  coefficient i None k = pos 0
  coefficient i (Some p) k = pos (stands_in k p.0 + stands_in k p.1) -ℤ pos (stands_in k i)

module _ (t : NodeTable) (class : ℕ → ℕ) (f : OpId) where
  -- k is the class of f's identity
  abbrev pub IsIdentityClass : ℕ → Type 0
  IsIdentityClass k = Any (λ p. (p.0 ≡ f) × (class p.1 ≡ k)) t.units

  -- k is the class of a sum by f or of one of its two arguments, and not that of f's identity
  pub record IsNodeColumn (k : ℕ) : Type 0 where
    pub sum : ℕ
    pub left : ℕ
    pub right : ℕ
    pub listed : Contains t.subterms sum
    pub over : IsOver t.nodes sum f (left ∷ right ∷ [])
    pub among : Contains (class sum ∷ class left ∷ class right ∷ []) k
    pub no_identity : IsIdentityClass k → ⊥

  -- the row of a sum, over columns that stand for these classes
  abbrev pub row_at : List ℕ → ℕ → List ℤ
  row_at columns i = map (coefficient class i (addends f (slice_get t.nodes i))) columns

  -- one column for each such class, in some order; one row for each sum by f: first argument plus second, less the sum
  pub record IsNodeSystem (columns : List ℕ) (system : System) : Type 0 where
    pub distinct : AllPairs ◌≢◌ columns
    pub exact : (k : ℕ) → Contains columns k ↔ IsNodeColumn k
    pub wide : system.columns ≡ length columns
    pub rows : rows_of system ≡ map (row_at columns) (sums t f)
