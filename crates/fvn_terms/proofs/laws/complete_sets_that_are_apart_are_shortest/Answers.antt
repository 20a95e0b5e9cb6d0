-- The law `complete_sets_that_are_apart_are_shortest`, by its lemma.
use Rattle.fvn_terms.proofs.Instances.{shortest_unifiers}
use Rattle.fvn_terms.proofs.laws.complete_sets_that_are_apart_are_shortest.Goals as goal

pub returns : goal.returns
returns c = λ d problem vars. shortest_unifiers d vars problem
