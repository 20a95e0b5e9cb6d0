-- What rows say of the sizes of values, beside what sums and arguments say.
use Rattle.std.specs.Prelude.{Bool}
use Rattle.fvn_terms.specs.declared.declarations.Declarations.{Declarations}
use Rattle.fvn_combine_nodes.specs.Table.{NodeTable}
use Rattle.fvn_combine_nodes.specs.declared.state.State.{State}
use Rattle.fvn_combine_inferring.specs.Inferred.{AreEqualPairs}
use Rattle.fvn_combine_inferring.specs.inner.Sizes.{AreInside}
use Rattle.fvn_combine_inferring.specs.declared.holding.Pairs.{Pairs}

-- two lists of pairs hold of the sizes of all values that go with the state, and these give the pairs of the third one value
pub record ArePairs (d : Declarations) (t : NodeTable) (s : State) (sorted : Bool) (p : Pairs) : Type 0 where
  pub insides : AreInside d t s sorted p.insides.items
  pub held : AreInside d t s sorted p.held.items
  pub equal : AreEqualPairs d t s sorted p.equal.items
