-- The sort is at or below all.
use Rattle.std.proofs.Common.{sym, ◌∙◌}
use Rattle.fvn_base.proofs.Membership.{list_all_gives}
use Rattle.fvn_forms.specs.SortOrder.{at_or_below}
use Rattle.fvn_forms.proofs.SortTests.{at_or_below-true}
use Rattle.fvn_rewrite_laws.specs.declared.shapes.Shape.{Shape}
use Rattle.fvn_cohere.proofs.outlooks.low_among.Goals as goal

pub returns-then-is_below_all : goal.returns-then-is_below_all
returns-then-is_below_all c = λ o i.
    let d = c.args.sig.now in
    at_or_below-true d c.in-Some.q o.sort (list_all_gives (λ (z : Shape). at_or_below d c.in-Some.q z.sort) c.args.shapes.now o (sym c.is_below_all.ensures ∙ c.if-is_below_all.true) i)
