-- The least sort of the constant.
use Rattle.std.proofs.Common.{ap, ◌∙◌}
use Rattle.fvn_forms.specs.SortOrder.{at_or_below}
use Rattle.fvn_cohere.proofs.identities.stands_below.Goals as goal

pub returns : goal.returns
returns c = c.is_at_or_below.ensures ∙ ap (λ q. at_or_below c.args.sig.now q c.args.s) c.result-low.ensures.exact
