-- Choices that values obey: for each solution that is taken the summands that it stands for.
use Rattle.std.specs.Prelude.{◌≡◌, ℕ, ◌<◌, List, [], ◌∷◌, length, slice_index_or, Contains}
use Rattle.fvn_terms.specs.declared.plain.OpId.{OpId}
use Rattle.fvn_terms.specs.declared.declarations.Declarations.{Declarations}
use Rattle.fvn_forms.specs.Flat.{FlatTerm}
use Rattle.fvn_forms.specs.InOrder.{SameCounts}
use Rattle.fvn_forms.specs.Canon.{parts}
use Rattle.fvn_flat.specs.SolvedLists.{component}
use Rattle.fvn_combine_nodes.specs.Table.{NodeTable}
use Rattle.fvn_combine_leaves.specs.Leaves.{IsSumOperator, Uses}
use Rattle.fvn_combine_choices.specs.Binding.{IsConstant}
use Rattle.fvn_combine_choices.specs.Choosing.{Systems, Choice, taken}
use Rattle.fvn_combine_complete.specs.LaidOut.{laid_for}
use Rattle.fvn_combine_complete.specs.Vanishing.{MayVanish}
use Rattle.fvn_combine_complete.specs.Obeying.{ObeyTags}

module _ (d : Declarations) (t : NodeTable) (class : ℕ → ℕ) (values : ℕ → FlatTerm) where
  -- q is a summand, under f, of the value of a class that f uses
  pub record IsSummand (f : OpId) (q : FlatTerm) : Type 0 where
    pub k : ℕ
    pub used : Uses d t class f k
    pub among : Contains (parts d f (values k)) q

module _ (d : Declarations) (t : NodeTable) (class : ℕ → ℕ) (y : Systems) (c : Choice) (values : ℕ → FlatTerm) where
  -- for each solution that is taken for f the pieces that it stands for: summands of values, which are made up of them
  pub record AreMadeOf (f : OpId) (pieces : List (List FlatTerm)) : Type 0 where
    pub as_many : length pieces ≡ length (taken y c f)
    -- a solution that stands for nothing may stand for the identity
    pub some : (i : ℕ) → i < length (taken y c f) → slice_index_or pieces i [] ≡ [] → MayVanish d t class f (y.columns f) (slice_index_or (taken y c f) i [])
    pub summands : (z : List FlatTerm) (q : FlatTerm) → Contains pieces z → Contains z q → IsSummand d t class values f q
    -- the summands of each used class are the pieces, as often as the solutions have the class
    pub made : (k : ℕ) → Uses d t class f k → SameCounts (parts d f (values k)) (laid_for (y.columns f) k (taken y c f) pieces)
    -- a solution that has a constant stands for the constant's value alone
    pub alone : (i k : ℕ) → i < length (taken y c f) → IsConstant d t class c.tag f k → 0 < component (y.columns f) (slice_index_or (taken y c f) i []) k → slice_index_or pieces i [] ≡ values k ∷ []

  -- the values obey the choice: its tags, and for each sum operator its solutions
  pub record AreObeying : Type 0 where
    pub tags : ObeyTags d t class c.tag values
    pub pieces : OpId → List (List FlatTerm)
    pub made_of : (f : OpId) → IsSumOperator d t f → AreMadeOf f (pieces f)
