-- The law `flat_forms_are_compared`, by its lemma.
use Rattle.fvn_forms.proofs.Order.{flat_equal_decided}
use Rattle.fvn_forms.proofs.laws.flat_forms_are_compared.Goals as goal

pub returns : goal.returns
returns c = flat_equal_decided
