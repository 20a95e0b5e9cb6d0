-- Choices at a leaf: a tag for each shared class, and minimal solutions for each sum operator.
use Rattle.std.specs.Prelude.{◌≡◌, ◌≢◌, ℕ, ◌<◌, ◌≤◌, ◌^◌, List, length, sum_by, Option, Some, AllPairs, Contains}
use Rattle.fvn_terms.specs.declared.plain.OpId.{OpId}
use Rattle.fvn_terms.specs.declared.declarations.Declarations.{Declarations}
use Rattle.fvn_terms.specs.Signature.{axioms}
use Rattle.fvn_lindio.specs.declared.system.System.{System}
use Rattle.fvn_lindio.specs.Systems.{IsMinimal, rows_of}
use Rattle.fvn_acunify.specs.ValidChoice.{chosen}
use Rattle.fvn_flat.specs.SolvedLists.{component, IsSimple}
use Rattle.fvn_combine_nodes.specs.Table.{NodeTable, IsOver}
use Rattle.fvn_combine_systems.specs.NodeSystems.{IsNodeSystem}
use Rattle.fvn_combine_leaves.specs.Leaves.{IsSumOperator, Uses, IsShared}
use Rattle.fvn_combine_choices.specs.Binding.{IsBound, IsConstant, IsRequired}

-- for each sum operator the classes of its columns, its system, and minimal solutions of it
pub record Systems : Type 0 where
  pub columns : OpId → List ℕ
  pub system : OpId → System
  pub basis : OpId → List (List ℕ)

-- the sum operator of which a class is a sum, if it has one as its tag, and for each operator the number whose bits take solutions
pub record Choice : Type 0 where
  pub tag : ℕ → Option OpId
  pub number : OpId → ℕ

-- the solutions that the choice takes for f
abbrev pub taken : Systems → Choice → OpId → List (List ℕ)
taken y c f = chosen (c.number f) (y.basis f)

-- how many members the sum of f has for class k
abbrev pub member_count : Systems → Choice → OpId → ℕ → ℕ
member_count y c f k = sum_by (λ v. component (y.columns f) v k) (taken y c f)

module _ (d : Declarations) (t : NodeTable) (class : ℕ → ℕ) where
  -- the systems are those of the sum operators, with minimal solutions of them, each once
  pub record AreSystems (y : Systems) : Type 0 where
    pub is_system : (f : OpId) → IsSumOperator d t f → IsNodeSystem t class f (y.columns f) (y.system f)
    pub minimal : (f : OpId) → IsSumOperator d t f → (v : List ℕ) → Contains (y.basis f) v → IsMinimal (y.system f).columns (rows_of (y.system f)) v
    pub distinct : (f : OpId) → IsSumOperator d t f → AllPairs ◌≢◌ (y.basis f)

  module _ (y : Systems) (c : Choice) where
    -- some solution that is taken for f has both classes
    pub record AreTakenTogether (f : OpId) (k l : ℕ) : Type 0 where
      pub solution : List ℕ
      pub among : Contains (taken y c f) solution
      pub left : 0 < component (y.columns f) solution k
      pub right : 0 < component (y.columns f) solution l

    -- what is asked of the solutions that are taken for f
    pub record IsAcceptable (f : OpId) : Type 0 where
      pub within : c.number f < 2 ^ length (y.basis f)
      -- a constant is in one of them, and once
      pub once : (k : ℕ) → IsConstant d t class c.tag f k → member_count y c f k ≡ 1
      -- none has two constants
      pub apart : (k l : ℕ) → IsConstant d t class c.tag f k → IsConstant d t class c.tag f l → AreTakenTogether f k l → k ≡ l
      -- a sum that must have a member has one
      pub filled : (k : ℕ) → IsRequired d t class c.tag f k → 0 < member_count y c f k
      -- a shared class is no sum of a constant alone
      pub no_alias : (k l : ℕ) → IsShared d t class k → IsBound d t class c.tag f k → IsConstant d t class c.tag f l → AreTakenTogether f k l → 2 ≤ member_count y c f k

    -- what is asked of a choice: tags are of shared classes, each an operator that uses the class, and for each operator the solutions are acceptable
    pub record IsPossible : Type 0 where
      pub tags : (k : ℕ) (f : OpId) → c.tag k ≡ Some f → IsShared d t class k × Uses d t class f k
      pub acceptable : (f : OpId) → IsSumOperator d t f → IsAcceptable f

    -- what class k is bound to has class l in it
    pub data Needs (k l : ℕ) : Type 0 where
      -- a free or commutative operator heads a member of k, over an argument in l
      argument : (i : ℕ) (f : OpId) (ks : List ℕ) (j : ℕ) → IsOver t.nodes i f ks → IsSimple (axioms d f) → class i ≡ k → Contains ks j → class j ≡ l → Needs k l
      -- k is bound to a sum of f, of which l is a constant, and a solution that is taken has both
      summand : (f : OpId) → IsSumOperator d t f → IsBound d t class c.tag f k → IsConstant d t class c.tag f l → AreTakenTogether f k l → Needs k l

    -- a class needs only classes of a lower rank
    abbrev pub Falls : (ℕ → ℕ) → Type 0
    Falls rank = (k l : ℕ) → Needs k l → rank l < rank k
