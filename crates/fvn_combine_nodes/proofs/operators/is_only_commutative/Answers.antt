-- A sum is no commutative operator, and of the others commutativity alone exchanges arguments.
use Rattle.std.proofs.Common.{sym, ap, ◌∙◌}
use Rattle.fvn_terms.specs.Equality.{is_commutative}
use Rattle.fvn_combine_nodes.proofs.AxiomTests.{commutative_no_sum, only_commutative}
use Rattle.fvn_combine_nodes.proofs.operators.is_only_commutative.Goals as goal

pub returns-then-is_sum : goal.returns-then-is_sum
returns-then-is_sum c = (
  λ e. cc,
  λ e. absurd (commutative_no_sum c.args.axioms (sym c.is_sum.ensures.exact ∙ c.if-is_sum.true) e),
)

pub returns : goal.returns
returns c = (
  λ e. only_commutative c.args.axioms (sym c.is_sum.ensures.exact ∙ c.if-is_sum.false) (sym c.is_commutative.ensures.exact ∙ e),
  λ e. c.is_commutative.ensures.exact ∙ ap is_commutative e,
)
