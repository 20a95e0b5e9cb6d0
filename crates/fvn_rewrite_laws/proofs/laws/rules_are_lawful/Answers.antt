-- The law, by its lemmas.
use Rattle.fvn_rewrite_laws.proofs.RuleSteps.{rule_laws}
use Rattle.fvn_rewrite_laws.proofs.laws.rules_are_lawful.Goals as goal

pub returns : goal.returns
returns c = λ d good completed equations kinded. rule_laws d good completed equations kinded (c.rewriting_is_lawful.ensures d equations)
