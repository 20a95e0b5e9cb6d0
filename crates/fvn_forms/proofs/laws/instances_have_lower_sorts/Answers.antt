-- The law `instances_have_lower_sorts`, by its lemma.
use Rattle.fvn_forms.proofs.LeastSort.{inst_lowers}
use Rattle.fvn_forms.proofs.laws.instances_have_lower_sorts.Goals as goal

pub returns : goal.returns
returns c d good env keeps s flat = inst_lowers d good s flat env keeps
