-- The arguments, parted twice.
use Rattle.std.proofs.Common.{◌∷◌, ap, ◌∙◌}
use Rattle.fvn_narrow.proofs.serving.behind_two.Goals as goal

pub returns : goal.returns
returns c =
    let one = c.in-Some._one.now in
    (one, c.in-Some-split_first._rest.now, c.in-Some.ensures ∙ ap (λ l. one ∷ l) c.in-Some-split_first.ensures.cases.0)
