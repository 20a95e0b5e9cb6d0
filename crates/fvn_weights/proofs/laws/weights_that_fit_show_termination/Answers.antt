-- The law `weights_that_fit_show_termination`, by its lemma.
use Rattle.fvn_weights.proofs.Falling.{fitting_weights_terminate}
use Rattle.fvn_weights.proofs.laws.weights_that_fit_show_termination.Goals as goal

pub returns : goal.returns
returns c = fitting_weights_terminate
