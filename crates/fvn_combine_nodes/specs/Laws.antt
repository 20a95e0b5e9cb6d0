-- Laws of the partitions of a table's nodes.
use Rattle.std.specs.Prelude.{◌≡◌, ℕ, ◌<◌, suc, if◌then◌else◌, List, [], ◌∷◌, length, All}
use Rattle.fvn_terms.specs.declared.declarations.Declarations.{Declarations}
use Rattle.fvn_terms.specs.Term.{Term}
use Rattle.fvn_terms.specs.Substitution.{Substitution}
use Rattle.fvn_terms.specs.Unifiers.{Problem}
use Rattle.fvn_forms.specs.FitsKinds.{FitsKinds}
use Rattle.fvn_flat.specs.Fits.{Fits}
use Rattle.fvn_flat.specs.Problems.{IsProblem, plain_pairs, same_term}
use Rattle.fvn_flat.specs.Solving.{FlatPairs}
use Rattle.fvn_flat.specs.Partitions.{IsPartition}
use Rattle.fvn_flat.specs.SolvedLists.{IsKindUnifier}
use Rattle.fvn_combine_nodes.specs.Table.{NodeTable, IsWellMade, IsTableOf, terms_of, term_at}
use Rattle.fvn_combine_nodes.specs.Classes.{IsNodePartition}
use Rattle.fvn_combine_nodes.specs.Unifiers.{Partitions}

-- a unifier on kinds makes a partition of the nodes
abbrev pub UnifiersPartition : Type 0
UnifiersPartition = (d : Declarations) → FitsKinds d → (problem : Problem) → IsProblem d problem → (t : NodeTable) → IsWellMade t → IsTableOf d problem t → (s : Substitution) → IsKindUnifier d problem s → Partitions d t s

-- the place of a term in the list, or the length
abbrev pub place_of : List Term → Term → ℕ
place_of [] t = 0
place_of (u ∷ us) t = if same_term u t then 0 else suc (place_of us t)

-- the class of a term is that of its node
abbrev pub class_at : NodeTable → (ℕ → ℕ) → Term → ℕ
class_at t class u = class (place_of (terms_of t.nodes) u)

-- partitions of the nodes are those of the problem
pub record ArePartitionsOf (d : Declarations) (problem : Problem) (t : NodeTable) : Type 0 where
  pub of_nodes : (class : ℕ → ℕ) → IsNodePartition d t class → IsPartition d problem (class_at t class)
  pub of_terms : (class : Term → ℕ) → IsPartition d problem class → IsNodePartition d t (λ i. class (term_at t.nodes i))
  -- a node has the class of its term
  pub same : (class : ℕ → ℕ) (i : ℕ) → i < length t.nodes → class_at t class (term_at t.nodes i) ≡ class i

-- so they are where the table is of a problem that is flat
abbrev pub NodePartitionsArePartitions : Type 0
NodePartitionsArePartitions = (d : Declarations) (pairs : FlatPairs) → All (λ p. Fits d p.0 × Fits d p.1) pairs → (t : NodeTable) → IsWellMade t → IsTableOf d (plain_pairs pairs) t → ArePartitionsOf d (plain_pairs pairs) t
