-- Nodes of the kind of the node that names their class.
use Rattle.std.specs.Prelude.{ℕ}
use Rattle.fvn_terms.specs.declared.plain.SortId.{SortId}
use Rattle.fvn_terms.specs.declared.declarations.Declarations.{Declarations}
use Rattle.fvn_terms.specs.Signature.{HasKind}
use Rattle.fvn_combine_nodes.specs.Table.{NodeTable, term_at}

-- the node that names the class of node i is of its kind
abbrev pub IsOfItsKind : Declarations → NodeTable → (ℕ → ℕ) → ℕ → Type 0
IsOfItsKind d t class i = (q : SortId) → HasKind d (term_at t.nodes i) q → HasKind d (term_at t.nodes (class i)) q
