-- What is no sum and not commutative is free.
use Rattle.std.proofs.Common.{sym, ◌∙◌}
use Rattle.fvn_match.proofs.AxiomTests.{free_at}
use Rattle.fvn_match.proofs.apart.is_free.Goals as goal

pub returns : goal.returns
returns c = λ yes. free_at c.args.sig.now c.args.f c.axioms-axioms.result c.axioms-axioms.ensures (sym c.is_sum.ensures.exact ∙ c.if-is_sum.false) (sym c.is_commutative.ensures.exact ∙ c.if-is_commutative.false)
