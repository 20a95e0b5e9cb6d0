-- Theories, and the nodes that stand where two of them meet.
-- F. Baader and K. U. Schulz, Unification in the union of disjoint equational theories: combining decision procedures, 1996.
use Rattle.std.specs.Prelude.{◌≡◌, ◌≢◌, ◌⊎◌, ℕ, List, slice_get, Option, Some, None, Contains}
use Rattle.fvn_terms.specs.declared.plain.Var.{Var as Variable}
use Rattle.fvn_terms.specs.declared.plain.OpId.{OpId}
use Rattle.fvn_terms.specs.declared.declarations.Axioms.{Axioms}
use Rattle.fvn_terms.specs.declared.declarations.Axioms.TheVariants.{Free, Comm, AssocComm, AssocCommId}
use Rattle.fvn_terms.specs.declared.declarations.Declarations.{Declarations}
use Rattle.fvn_terms.specs.Signature.{axioms}
use Rattle.fvn_combine_nodes.specs.Table.{NodeTable, IsOver}
use Rattle.fvn_combine_nodes.specs.declared.table.Node.TheVariants.{Var}

-- the theory of an operator with these axioms: its own, or the one of all free operators
abbrev pub theory_by : Axioms → OpId → Option OpId
theory_by Free f = None
theory_by Comm f = Some f
theory_by AssocComm f = Some f
theory_by (AssocCommId e) f = Some f

-- the theory of an operator
abbrev pub theory : Declarations → OpId → Option OpId
theory d f = theory_by (axioms d f) f

-- node i is a variable
abbrev pub IsVariable : NodeTable → ℕ → Type 0
IsVariable t i = (x : Variable) × (slice_get t.nodes i ≡ Some (Var x))

-- nodes i and j are the two sides of a pair
abbrev pub AreOpposite : NodeTable → ℕ → ℕ → Type 0
AreOpposite t i j = Contains t.sides (i, j) ⊎ Contains t.sides (j, i)

-- node i is the side of a pair whose other side is a variable
abbrev pub FacesVariable : NodeTable → ℕ → Type 0
FacesVariable t i = (j : ℕ) × AreOpposite t i j × IsVariable t j

-- node i is an argument of an f-headed node, or the side of a pair whose other side is one
pub record StandsUnder (t : NodeTable) (i : ℕ) (f : OpId) : Type 0 where
  pub headed : ℕ
  pub arguments : List ℕ
  pub is : IsOver t.nodes headed f arguments
  pub stands : Contains arguments i ⊎ AreOpposite t i headed

module _ (d : Declarations) (t : NodeTable) where
  -- node i stands under an operator of another theory than this one
  pub record StandsOutside (i : ℕ) (own : Option OpId) : Type 0 where
    pub operator : OpId
    pub under : StandsUnder t i operator
    pub other : theory d operator ≢ own

  -- node i is no variable, and stands under an operator of another theory than its own
  pub record IsAbstracted (i : ℕ) : Type 0 where
    pub operator : OpId
    pub arguments : List ℕ
    pub is : IsOver t.nodes i operator arguments
    pub outside : StandsOutside i (theory d operator)

  -- node i stands under operators of two theories
  pub record StandsInTwo (i : ℕ) : Type 0 where
    pub operator : OpId
    pub under : StandsUnder t i operator
    pub outside : StandsOutside i (theory d operator)

  -- node i is a variable of two theories, or one that is to equal a variable
  abbrev pub IsSharedVariable : ℕ → Type 0
  IsSharedVariable i = IsVariable t i × (StandsInTwo i ⊎ FacesVariable t i)
