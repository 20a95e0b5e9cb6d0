-- Nodes that are variables of a class, with sorts that admit no sum, or not the identity; and columns of such classes.
use Rattle.std.specs.Prelude.{◌≡◌, ℕ, true, false, slice_get, slice_index, slice_index_or, Some}
use Rattle.fvn_terms.specs.declared.plain.Var.{Var as Variable}
use Rattle.fvn_terms.specs.declared.plain.OpId.{OpId}
use Rattle.fvn_terms.specs.declared.declarations.Declarations.{Declarations}
use Rattle.fvn_combine_nodes.specs.Table.{NodeTable}
use Rattle.fvn_combine_nodes.specs.declared.table.Node.TheVariants.{Var}
use Rattle.fvn_combine_leaves.specs.declared.reading.Sums.{Sums}
use Rattle.fvn_combine_complete.specs.Neutral.{IsNeutral}
use Rattle.fvn_combine_bounds.specs.Narrow.{IsNarrow, IsNeverIdentity}
use Rattle.fvn_sort_bounds.specs.Admitting.{AdmitsSum, AdmitsIdentity}

module _ (d : Declarations) (t : NodeTable) (class : ℕ → ℕ) (f : OpId) (k i : ℕ) where
  -- node i is a variable in class k, and its sort admits no sum by f
  pub record IsNarrowNode : Type 0 where
    pub variable : Variable
    pub is : slice_get t.nodes i ≡ Some (Var variable)
    pub of : class i ≡ k
    pub none : AdmitsSum d f variable.sort → ⊥

  -- node i is a variable in class k, and its sort does not admit the identity of f
  pub record IsOtherNode : Type 0 where
    pub variable : Variable
    pub is : slice_get t.nodes i ≡ Some (Var variable)
    pub of : class i ≡ k
    pub none : AdmitsIdentity d f variable.sort → ⊥

module _ (d : Declarations) (t : NodeTable) (class : ℕ → ℕ) (s : Sums) where
  -- column j is marked as used, and its class is narrow under the operator
  abbrev pub IsNarrowColumn : ℕ → Type 0
  IsNarrowColumn j = (slice_index_or s.used j false ≡ true) × IsNarrow d t class s.operator (slice_index s.columns j)

  -- so it is, and the operator is not neutral
  abbrev pub IsCappedColumn : ℕ → Type 0
  IsCappedColumn j = IsNarrowColumn j × (IsNeutral d s.operator → ⊥)

  -- column j is marked as used, and its class is never the operator's identity
  abbrev pub IsOtherColumn : ℕ → Type 0
  IsOtherColumn j = (slice_index_or s.used j false ≡ true) × IsNeverIdentity d t class s.operator (slice_index s.columns j)
