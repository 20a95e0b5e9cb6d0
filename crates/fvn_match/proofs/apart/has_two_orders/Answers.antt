-- What is no sum and commutative has two orders.
use Rattle.std.proofs.Common.{sym, ◌∙◌}
use Rattle.fvn_match.proofs.AxiomTests.{commutative_at}
use Rattle.fvn_match.proofs.apart.has_two_orders.Goals as goal

pub returns : goal.returns
returns c = λ yes. commutative_at c.args.sig.now c.args.f c.axioms-axioms.result c.axioms-axioms.ensures (sym c.is_sum.ensures.exact ∙ c.if-is_sum.false) (sym c.is_commutative.ensures.exact ∙ yes)
