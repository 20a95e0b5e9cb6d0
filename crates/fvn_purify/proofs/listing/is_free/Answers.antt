-- No axioms are those of free operators.
use Rattle.std.proofs.Common.{sym, ap, ◌∙◌}
use Rattle.fvn_terms.specs.Equality.{is_free}
use Rattle.fvn_terms.proofs.AxiomWords.{free_is}
use Rattle.fvn_purify.proofs.listing.is_free.Goals as goal

pub returns : goal.returns
returns c = (λ e. free_is c.args.axioms (sym c.is_free.ensures ∙ e), λ e. c.is_free.ensures ∙ ap is_free e)
