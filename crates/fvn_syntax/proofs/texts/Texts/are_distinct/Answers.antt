-- The keys of the set are different, and so are their texts.
use Rattle.std.proofs.Common.{◌≢◌, subst}
use Rattle.std.specs.Prelude.{AllPairs}
use Rattle.fvn_syntax.proofs.TextLemmas.{distinct-pairs, bytes_in}
use Rattle.fvn_syntax.proofs.texts.Texts.are_distinct.Goals as goal

pub returns : goal.returns
returns c = subst (AllPairs (λ x y. x ≢ y)) c.self.view_is (distinct-pairs bytes_in c.self.inside.set.keys c.self.invariant)
