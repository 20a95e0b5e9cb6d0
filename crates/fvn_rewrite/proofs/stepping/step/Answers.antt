-- What the walk finds.
use Rattle.fvn_theory.specs.Equations.{equations_of}
use Rattle.fvn_rewrite.proofs.Found.{found_none}
use Rattle.fvn_rewrite.proofs.stepping.step.Goals as goal

pub walk-requires : goal.walk-requires
walk-requires c = record { rules = c.requires.rules; term = c.requires.term }

pub returns-clause-none : goal.returns-clause-none
returns-clause-none c =
    found_none c.args.sig.now (equations_of c.args.rules.now.equations) c.args.t.now c.in_ok-found.found
    (c.rules_are_coherent.ensures c.args.sig.now c.recall_good.ensures c.recall_completed.ensures (equations_of c.args.rules.now.equations) c.requires.rules.admissible) c.requires.term c.in_ok-found.ensures
