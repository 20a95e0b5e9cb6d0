-- The law `settled_is_flat`, by its lemma.
use Rattle.fvn_forms.proofs.Eval.{settled_iff_flat}
use Rattle.fvn_forms.proofs.laws.settled_is_flat.Goals as goal

pub returns : goal.returns
returns c = settled_iff_flat
