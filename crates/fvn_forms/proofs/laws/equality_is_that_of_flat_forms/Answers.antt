-- The law `equality_is_that_of_flat_forms`, by its lemma.
use Rattle.fvn_forms.proofs.ToCanon.{b_equal_iff_canon}
use Rattle.fvn_forms.proofs.laws.equality_is_that_of_flat_forms.Goals as goal

pub returns : goal.returns
returns c = b_equal_iff_canon
