-- The law, by its lemma.
use Rattle.fvn_critical_pairs.proofs.Reaching.{both_reached}
use Rattle.fvn_critical_pairs.proofs.laws.overlaps_are_steps.Goals as goal

pub returns : goal.returns
returns c = λ d lists used next o is s unifies. both_reached d lists used c.rewriting_is_lawful.ensures c.rules_are_lawful.ensures c.instances_step_at_parts.ensures next o is s unifies
