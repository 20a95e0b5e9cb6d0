-- Solutions that may stand for the identity: a choice without one is an instance of the one with it.
use Rattle.std.specs.Prelude.{◌≡◌, ◌⊎◌, ℕ, ◌<◌, List, slice_get, Some, Contains}
use Rattle.fvn_terms.specs.declared.plain.Var.{Var as Variable}
use Rattle.fvn_terms.specs.declared.plain.OpId.{OpId}
use Rattle.fvn_terms.specs.declared.plain.SortId.{SortId}
use Rattle.fvn_terms.specs.declared.declarations.Axioms.TheVariants.{Comm}
use Rattle.fvn_terms.specs.declared.declarations.Rank.{Rank}
use Rattle.fvn_terms.specs.declared.declarations.Declarations.{Declarations}
use Rattle.fvn_terms.specs.Signature.{axioms, declared}
use Rattle.fvn_terms.specs.Equality.{identity}
use Rattle.fvn_flat.specs.SolvedLists.{component, IsSimple}
use Rattle.fvn_combine_nodes.specs.Table.{NodeTable, IsOver}
use Rattle.fvn_combine_nodes.specs.declared.table.Node.TheVariants.{Var}
use Rattle.fvn_combine_leaves.specs.Leaves.{IsSolid, Uses}
use Rattle.fvn_combine_complete.specs.Neutral.{Absorbs, IsNeutral}

module _ (d : Declarations) (t : NodeTable) (class : ℕ → ℕ) where
  -- Class k takes the constant unit, under f, as a summand more, whatever its value: f alone uses it, no operator without an identity heads a member,
  -- and these sorts have each sum by f of one of their terms with the constant: the sort of each variable in the class, each that a free operator over a
  -- member declares for the argument, and each that a commutative one declares.
  pub record TakesIdentity (f unit : OpId) (k : ℕ) : Type 0 where
    pub alone : (g : OpId) → Uses d t class g k → g ≡ f
    pub soft : (g : OpId) → IsSolid d t class g k → ⊥
    pub arguments : (i p q j : ℕ) (g : OpId) (ks : List ℕ) → IsOver t.nodes i g ks → IsSimple (axioms d g) → slice_get ks p ≡ Some j → class j ≡ k
        → (p ≡ q) ⊎ (axioms d g ≡ Comm) → (r : Rank) → Contains (declared d g).ranks r → (a : SortId) → slice_get r.args q ≡ Some a → Absorbs d f unit a
    pub variables : (i : ℕ) (x : Variable) → slice_get t.nodes i ≡ Some (Var x) → class i ≡ k → Absorbs d f unit x.sort

  -- what stands for a solution of f, one part a column, may be the identity of f: f is neutral, or each class that the solution has takes it
  pub record MayVanish (f : OpId) (columns solution : List ℕ) : Type 0 where
    pub unit : OpId
    pub is_identity : identity (axioms d f) ≡ Some unit
    pub each : (k : ℕ) → 0 < component columns solution k → IsNeutral d f ⊎ TakesIdentity f unit k
