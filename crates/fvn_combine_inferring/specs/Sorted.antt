-- Values that go with a state, as the sorts of variables have them.
use Rattle.std.specs.Prelude.{◌≡◌, ◌≢◌, ℕ, ◌≤◌, Bool, true, [], length}
use Rattle.fvn_terms.specs.declared.plain.OpId.{OpId}
use Rattle.fvn_terms.specs.declared.declarations.Declarations.{Declarations}
use Rattle.fvn_terms.specs.Signature.{axioms}
use Rattle.fvn_terms.specs.Equality.{IsAssociative}
use Rattle.fvn_forms.specs.Flat.{FlatTerm}
use Rattle.fvn_forms.specs.Canon.{parts}
use Rattle.fvn_combine_nodes.specs.Table.{NodeTable}
use Rattle.fvn_combine_nodes.specs.States.{class_of}
use Rattle.fvn_combine_nodes.specs.declared.state.State.{State}
use Rattle.fvn_combine_bounds.specs.CombineCompleteObeying.{GoWith}
use Rattle.fvn_combine_bounds.specs.Narrow.{IsNarrow, IsNeverIdentity}

module _ (d : Declarations) (t : NodeTable) (s : State) where
  -- the value of a narrow class has one summand at most, and that of a class that is never the identity has some
  pub record HaveSortedSummands (values : ℕ → FlatTerm) : Type 0 where
    pub once : (f : OpId) → IsAssociative (axioms d f) → (k : ℕ) → IsNarrow d t (class_of s) f k → length (parts d f (values k)) ≤ 1
    pub some : (f : OpId) (k : ℕ) → IsNeverIdentity d t (class_of s) f k → parts d f (values k) ≢ []

  -- the values go with the state, and where sorts are heeded their summands are as these have them
  pub record GoWithSorts (sorted : Bool) (values : ℕ → FlatTerm) : Type 0 where
    pub go : GoWith d t s values
    pub heeded : sorted ≡ true → HaveSortedSummands values
