-- What the substitution makes of the left side is an instance.
use Rattle.fvn_rewrite_rules.proofs.Matched.{rule_fits}
use Rattle.fvn_rewrite_rules.proofs.Sorted.{made_instance}
use Rattle.fvn_rewrite_rules.proofs.guessing.makes.Goals as goal

pub apply-requires-clause-subst : goal.apply-requires-clause-subst
apply-requires-clause-subst c = c.requires.subst.fit

pub apply-requires-clause-term : goal.apply-requires-clause-term
apply-requires-clause-term c = rule_fits c.args.sig.now c.args.rule.now c.requires.rule

pub returns : goal.returns
returns c = λ told. made_instance c.args.sig.now c.args.rule.now c.args.other.now c.args.s.now c.requires.subst c.in_ok-t.t c.in_ok-t.ensures.equal (c.same-is.ensures.exact.0 told)
