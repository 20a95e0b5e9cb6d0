-- What the test tells.
use Rattle.fvn_rewrite.specs.Usable.{equations_by}
use Rattle.fvn_narrow_children.proofs.ValueFacts.{reducible_as}
use Rattle.fvn_narrow_children.proofs.values.steps_on.Goals as goal

pub returns : goal.returns
returns c =
    let r = c.args.rewriter.now in
    reducible_as r.signature (equations_by r) c.args.t.now c.in_ok-is.is' c.in_ok-is.ensures.yes c.in_ok-is.ensures.no
