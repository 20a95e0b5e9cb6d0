-- Nodes that let a class take an identity: the sorts that they ask of it are sorts of every sum with the identity.
use Rattle.std.specs.Prelude.{◌≡◌, ◌⊎◌, ◌<◌, ℕ, Bool, true, List, slice_get, slice_index, Some, Contains}
use Rattle.fvn_terms.specs.declared.plain.OpId.{OpId}
use Rattle.fvn_terms.specs.declared.plain.SortId.{SortId}
use Rattle.fvn_terms.specs.declared.declarations.Axioms.TheVariants.{Comm}
use Rattle.fvn_terms.specs.declared.declarations.Rank.{Rank}
use Rattle.fvn_terms.specs.declared.declarations.Declarations.{Declarations}
use Rattle.fvn_terms.specs.Signature.{axioms, declared}
use Rattle.fvn_flat.specs.SolvedLists.{IsSimple}
use Rattle.fvn_combine_nodes.specs.Table.{NodeTable}
use Rattle.fvn_combine_nodes.specs.declared.table.Node.{Node}
use Rattle.fvn_combine_nodes.specs.declared.table.Node.TheVariants.{Var, App}
use Rattle.fvn_combine_leaves.specs.declared.reading.Sums.{Sums}
use Rattle.fvn_combine_complete.specs.Vanishing.{TakesIdentity}

-- the sorts that the rank declares where an argument at place p may stand are among those
abbrev pub RankLets : (SortId → Type 0) → Bool → ℕ → Rank → Type 0
RankLets P swaps p r = (q : ℕ) (a : SortId) → slice_get r.args q ≡ Some a → (p ≡ q) ⊎ (swaps ≡ true) → P a

-- so are those of all these ranks
abbrev pub RanksLet : (SortId → Type 0) → Bool → ℕ → List Rank → Type 0
RanksLet P swaps p rs = (j : ℕ) (r : Rank) → slice_get rs j ≡ Some r → RankLets P swaps p r

module _ (d : Declarations) where
  -- the same of an operator's ranks
  abbrev pub ArgumentLets : (SortId → Type 0) → OpId → ℕ → Type 0
  ArgumentLets P g p = (r : Rank) → Contains (declared d g).ranks r → (q : ℕ) (a : SortId) → slice_get r.args q ≡ Some a → (p ≡ q) ⊎ (axioms d g ≡ Comm) → P a

  module _ (class : ℕ → ℕ) where
    -- the same of each argument that is in class k
    abbrev pub ArgumentsLet : (SortId → Type 0) → ℕ → OpId → List ℕ → Type 0
    ArgumentsLet P k g ks = (p j : ℕ) → slice_get ks p ≡ Some j → class j ≡ k → ArgumentLets P g p

    -- the sorts that node i asks of class k are among those
    abbrev pub NodeLets : (SortId → Type 0) → ℕ → ℕ → Node → Type 0
    NodeLets P k i (Var x) = class i ≡ k → P x.sort
    NodeLets P k i (App g ks) = IsSimple (axioms d g) → ArgumentsLet P k g ks

-- so are those that all nodes ask of it
abbrev pub AllLet : (d : Declarations) (t : NodeTable) (class : ℕ → ℕ) (P : SortId → Type 0) (k : ℕ) → Type 0
AllLet d t class P k = (i : ℕ) (n : Node) → slice_get t.nodes i ≡ Some n → NodeLets d class P k i n

-- the numbers below n of which this does not hold
pub record AreOthersBelow (takes : ℕ → Type 0) (n : ℕ) (list : List ℕ) : Type 0 where
  pub exact : (j : ℕ) → Contains list j → (j < n) × (takes j → ⊥)
  pub rest : (j : ℕ) → j < n → Contains list j ⊎ takes j

module _ (d : Declarations) (t : NodeTable) (class : ℕ → ℕ) where
  -- the class of column j takes the constant unit under the operator
  abbrev pub IsTakenAt : Sums → OpId → ℕ → Type 0
  IsTakenAt e unit j = TakesIdentity d t class e.operator unit (slice_index e.columns j)

  -- the columns before this one of which that is not so
  abbrev pub AreFixedBelow : Sums → OpId → ℕ → List ℕ → Type 0
  AreFixedBelow e unit n list = AreOthersBelow (IsTakenAt e unit) n list
