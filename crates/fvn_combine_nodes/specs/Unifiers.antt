-- The partition of a table's nodes that a substitution makes.
use Rattle.std.specs.Prelude.{◌≡◌, ◌↔◌, ℕ, ◌<◌, zero, suc, if◌then◌else◌, List, length}
use Rattle.fvn_terms.specs.declared.declarations.Declarations.{Declarations}
use Rattle.fvn_terms.specs.Substitution.{Substitution, apply}
use Rattle.fvn_terms.specs.Equality.{BEqual}
use Rattle.fvn_forms.specs.Flat.{FlatTerm}
use Rattle.fvn_forms.specs.Order.{same_flat}
use Rattle.fvn_forms.specs.Canon.{canon}
use Rattle.fvn_combine_nodes.specs.Table.{NodeTable, term_at}
use Rattle.fvn_combine_nodes.specs.Classes.{IsNodePartition}
use Rattle.fvn_combine_nodes.specs.declared.table.Node.{Node}

-- the flat form of the instance of node i
abbrev pub value_at : Declarations → Substitution → List Node → ℕ → FlatTerm
value_at d s nodes i = canon d (apply s (term_at nodes i))

-- the first of the numbers up to n at which the value is q; n where there is none
abbrev pub first_at : (ℕ → FlatTerm) → FlatTerm → ℕ → ℕ
first_at values q zero = 0
first_at values q (suc n) = if same_flat (values (first_at values q n)) q then first_at values q n else suc n

-- nodes with equal instances are in one class, under the number of the first of them
abbrev pub kernel : Declarations → Substitution → List Node → ℕ → ℕ
kernel d s nodes i = first_at (value_at d s nodes) (value_at d s nodes i) i

-- the substitution makes a partition, in which nodes are in one class exactly where their instances are equal modulo the axioms
pub record Partitions (d : Declarations) (t : NodeTable) (s : Substitution) : Type 0 where
  pub partition : IsNodePartition d t (kernel d s t.nodes)
  pub exact : (i j : ℕ) → i < length t.nodes → j < length t.nodes → (kernel d s t.nodes i ≡ kernel d s t.nodes j) ↔ BEqual d (apply s (term_at t.nodes i)) (apply s (term_at t.nodes j))
