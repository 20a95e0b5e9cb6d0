-- The law, by its lemma.
use Rattle.fvn_rewrite_peaks.proofs.Runs.{instance_runs}
use Rattle.fvn_rewrite_peaks.proofs.laws.values_carry_instances.Goals as goal

pub returns : goal.returns
returns c = λ d equations. instance_runs d equations (c.rewriting_is_lawful.ensures d equations) (c.sequences_are_lawful.ensures d equations)
