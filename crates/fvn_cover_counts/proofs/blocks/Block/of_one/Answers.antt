-- the marks between themselves
use Rattle.std.proofs.Common.{◌≡◌, [], ◌∷◌, ◌++◌, ap, ◌∙◌}
use Rattle.fvn_cover_counts.proofs.Holding.{one_between}
use Rattle.fvn_cover_counts.proofs.blocks.Block.of_one.Goals as goal

pub returns : goal.returns
returns c =
    let one = c.in_ok-push.ensures.items ∙ ap (λ l. l ++ c.args.m ∷ []) c.new-marks.ensures.items in
    record { block = one_between c.args.m _ one; marks = one }
