-- Below what is below.
use Rattle.std.proofs.Common.{subst}
use Rattle.fvn_forms.proofs.SortOrder.{AtOrBelow-trans}
use Rattle.fvn_cohere.specs.inner.Outlooks.{IsLow}
use Rattle.fvn_cohere.proofs.outlooks.is_below_low.Goals as goal

pub returns-in-Some : goal.returns-in-Some
returns-in-Some c = λ h q low. AtOrBelow-trans c.args.sig.now (c.leq.ensures.0 h) (subst (λ l. IsLow c.args.sig.now l q) c.in-Some.is low)
