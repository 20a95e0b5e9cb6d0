-- What the test says.
use Rattle.std.proofs.Common.{sym, ◌∙◌}
use Rattle.fvn_terms.proofs.AxiomWords.{free_is}
use Rattle.fvn_rewrite.proofs.fitting.is_free.Goals as goal

pub returns : goal.returns
returns c = λ t. free_is c.args.axioms (sym c.is_free.ensures ∙ t)
