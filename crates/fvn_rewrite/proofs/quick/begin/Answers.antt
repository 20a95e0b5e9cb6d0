-- The laws, and what one step leads to.
use Rattle.std.proofs.Common.{◌-◌, refl, arith}
use Rattle.fvn_theory.specs.Equations.{equations_of}
use Rattle.fvn_rewrite.proofs.Beginning.{lawful, begun_next}
use Rattle.fvn_rewrite.proofs.quick.begin.Goals as goal

pub quick-requires-clause-laws : goal.quick-requires-clause-laws
quick-requires-clause-laws c =
    lawful c.args.sig.now c.args.rules.now c.requires.rules c.recall_good.ensures c.recall_completed.ensures c.rules_are_lawful.ensures c.rewriting_is_lawful.ensures c.sequences_are_lawful.ensures
    c.kinded_theories_are_lawful.ensures

pub inside-requires-clause-laws : goal.inside-requires-clause-laws
inside-requires-clause-laws c =
    lawful c.args.sig.now c.args.rules.now c.requires.rules c.recall_good.ensures c.recall_completed.ensures c.rules_are_lawful.ensures c.rewriting_is_lawful.ensures c.sequences_are_lawful.ensures
    c.kinded_theories_are_lawful.ensures

pub returns : goal.returns
returns c =
    begun_next c.args.sig.now (equations_of c.args.rules.now.equations) c.rewriting_is_lawful.ensures c.args.t.now c.args.next c.args.bounds.steps record { form = c.args.next; left = c.args.bounds.steps - 1 } c.requires.term c.requires.next refl
    (omega (arith, c.requires.some))
