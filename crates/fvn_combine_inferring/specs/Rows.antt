-- Reduced rows: what the sums by an operator say of classes, where each class is replaced by the classes that it adds, and
-- what stands on both sides is taken out.
use Rattle.std.specs.Prelude.{◌≡◌, ℕ, ◌<◌, ◌≤◌, Bool, List, [], ◌∷◌, length, sum_by}
use Rattle.fvn_terms.specs.declared.plain.OpId.{OpId}
use Rattle.fvn_terms.specs.declared.declarations.Declarations.{Declarations}
use Rattle.fvn_terms.specs.Signature.{axioms}
use Rattle.fvn_terms.specs.Equality.{IsAssociative}
use Rattle.fvn_forms.specs.Flat.{FlatTerm}
use Rattle.fvn_forms.specs.InOrder.{count}
use Rattle.fvn_forms.specs.Canon.{parts}
use Rattle.fvn_combine_nodes.specs.Table.{NodeTable}
use Rattle.fvn_combine_nodes.specs.States.{class_of}
use Rattle.fvn_combine_nodes.specs.declared.state.State.{State}
use Rattle.fvn_combine_bounds.specs.CombineCompleteObeying.{GoWith}
use Rattle.fvn_combine_inferring.specs.Sorted.{GoWithSorts}

module _ (d : Declarations) (s : State) (f : OpId) (values : ℕ → FlatTerm) where
  -- the summands, under f, of the value of the class of node k
  abbrev pub summands : ℕ → List FlatTerm
  summands k = parts d f (values (class_of s k))

  -- how often q is one of them
  abbrev pub times : FlatTerm → ℕ → ℕ
  times q k = count q (summands k)

  -- how many there are
  abbrev pub many : ℕ → ℕ
  many k = length (summands k)

  -- the classes of both lists of nodes have together the same summands, each as often; a class that is listed twice has its own twice
  abbrev pub HaveSameSummands : List ℕ → List ℕ → Type 0
  HaveSameSummands ks ls = (q : FlatTerm) → sum_by (times q) ks ≡ sum_by (times q) ls

module _ (d : Declarations) (t : NodeTable) (s : State) (f : OpId) where
  -- so they have, whatever values go with the state: both lists are the sides of a reduced row
  abbrev pub AreSides : List ℕ → List ℕ → Type 0
  AreSides ks ls = (values : ℕ → FlatTerm) → GoWith d t s values → HaveSameSummands d s f values ks ls

  -- whatever values go with the state, the summands of the class of node k are among those of the classes of the list together
  abbrev pub IsAmong : ℕ → List ℕ → Type 0
  IsAmong k ks = (values : ℕ → FlatTerm) → GoWith d t s values → (q : FlatTerm) → times d s f values q k ≤ sum_by (times d s f values q) ks

module _ (d : Declarations) (t : NodeTable) (s : State) (sorted : Bool) (f : OpId) where
  -- whatever values go with the state, that of the class of node k has a summand
  abbrev pub HasSummand : ℕ → Type 0
  HasSummand k = (values : ℕ → FlatTerm) → GoWithSorts d t s sorted values → 1 ≤ many d s f values k

  -- it has one at most
  abbrev pub HasFewSummands : ℕ → Type 0
  HasFewSummands k = (values : ℕ → FlatTerm) → GoWithSorts d t s sorted values → many d s f values k ≤ 1

  -- it is its one summand
  abbrev pub IsSummand : ℕ → Type 0
  IsSummand k = (values : ℕ → FlatTerm) → GoWithSorts d t s sorted values → summands d s f values k ≡ values (class_of s k) ∷ []

  -- whatever values go with the state, each summand of that of the class of node i is one of that of the class of node j, as often or more often
  abbrev pub HoldsSummands : ℕ → ℕ → Type 0
  HoldsSummands i j = (values : ℕ → FlatTerm) → GoWithSorts d t s sorted values → (q : FlatTerm) → times d s f values q i ≤ times d s f values q j

-- an operator and two nodes: the value of the second one's class has all summands of that of the first one's
pub record IsHeld (d : Declarations) (t : NodeTable) (s : State) (sorted : Bool) (h : OpId × ℕ × ℕ) : Type 0 where
  pub part : h.1 < length t.nodes
  pub whole : h.2 < length t.nodes
  pub associative : IsAssociative (axioms d h.0)
  pub holds : HoldsSummands d t s sorted h.0 h.1 h.2
