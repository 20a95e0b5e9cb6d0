-- The left side has the sort, and the right side has not.
use Rattle.fvn_terms.specs.Plain.{term}
use Rattle.fvn_rewrite_laws.specs.Shapes.{shape_in}
use Rattle.fvn_cohere.specs.inner.Searching.{shapes_by}
use Rattle.fvn_cohere.proofs.Sifting.{left_has_not, left_has}
use Rattle.fvn_cohere.proofs.searching.Search.is_lost_at.Goals as goal

pub returns-then-not-is_at_or_below : goal.returns-then-not-is_at_or_below
returns-then-not-is_at_or_below c =
    let d = c.args.self.now.sig.now in
    left_has_not d c.args.s c.args.left (shape_in d (shapes_by c.args.chosen.now) (term c.args.self.now.right.now)).sort c.is_at_or_below.result c.is_at_or_below.ensures c.if-not-is_at_or_below.true

pub returns : goal.returns
returns c =
    let d = c.args.self.now.sig.now in
    left_has d c.args.s c.args.left (shape_in d (shapes_by c.args.chosen.now) (term c.args.self.now.right.now)) c.shape-right.result c.is_at_or_below.result c.is_at_or_below-2.result
    c.is_at_or_below.ensures c.if-not-is_at_or_below.false c.shape-right.ensures c.is_at_or_below-2.ensures
