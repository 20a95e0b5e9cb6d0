-- The law `least_sort_is_exact`, by its lemma.
use Rattle.fvn_forms.proofs.LeastSort.{least_sort_exact}
use Rattle.fvn_forms.proofs.laws.least_sort_is_exact.Goals as goal

pub returns : goal.returns
returns c = least_sort_exact
