-- The sort is at or above all.
use Rattle.std.proofs.Common.{sym, ◌∙◌}
use Rattle.fvn_base.proofs.Membership.{list_all_gives}
use Rattle.fvn_forms.specs.SortOrder.{at_or_below}
use Rattle.fvn_forms.proofs.SortTests.{at_or_below-true}
use Rattle.fvn_rewrite_laws.specs.declared.shapes.Shape.{Shape}
use Rattle.fvn_cohere.proofs.outlooks.high_among.Goals as goal

pub returns-then-is_above_all : goal.returns-then-is_above_all
returns-then-is_above_all c = λ o i a.
    let d = c.args.sig.now in
    at_or_below-true d o.sort c.in-Some.q (list_all_gives (λ (z : Shape). at_or_below d z.sort c.in-Some.q) c.args.shapes.now o (sym c.is_above_all.ensures ∙ c.if-is_above_all.true) i)
