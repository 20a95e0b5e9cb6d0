-- The law, by the lemma on complete lists.
use Rattle.fvn_terms.specs.Unifiers.{IsInstance}
use Rattle.fvn_terms.proofs.CompleteSets.{apart_and_complete_is_shortest}
use Rattle.fvn_flat.specs.Problems.{variables_of}
use Rattle.fvn_vunify.specs.Solutions.{IsIrreducibleUnifier}
use Rattle.fvn_vunify.proofs.laws.complete_irreducible_unifiers_are_shortest.Goals as goal

pub returns : goal.returns
returns c = λ g problem set whole apart.
    apart_and_complete_is_shortest (IsIrreducibleUnifier g problem) (IsInstance g.declarations (variables_of problem))
    (c.instances_are_transitive.ensures g.declarations g.equations (variables_of problem)).modulo set whole apart
