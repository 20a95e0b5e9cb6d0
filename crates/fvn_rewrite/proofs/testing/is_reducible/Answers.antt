-- What is told of the places is told of the term.
use Rattle.fvn_theory.specs.Equations.{equations_of}
use Rattle.fvn_rewrite.proofs.Tested.{reducible_told, irreducible_told}
use Rattle.fvn_rewrite.proofs.testing.is_reducible.Goals as goal

pub has_redex-requires : goal.has_redex-requires
has_redex-requires c = record { rules = c.requires.rules; term = c.requires.term }

pub returns-clause-yes : goal.returns-clause-yes
returns-clause-yes c e = reducible_told c.args.sig.now (equations_of c.args.rules.now.equations) c.args.t.now c.in_ok-found.found c.in_ok-found.ensures e

pub returns-clause-no : goal.returns-clause-no
returns-clause-no c e =
    irreducible_told c.args.sig.now (equations_of c.args.rules.now.equations)
    (c.rules_are_coherent.ensures c.args.sig.now c.recall_good.ensures c.recall_completed.ensures (equations_of c.args.rules.now.equations) c.requires.rules.admissible) c.args.t.now c.requires.term c.in_ok-found.found c.in_ok-found.ensures e
