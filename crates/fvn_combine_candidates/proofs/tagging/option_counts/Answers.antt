-- One more count.
use Rattle.std.proofs.Common.{◌+◌, [], ◌∷◌, ◌++◌, ap, ◌∙◌}
use Rattle.fvn_combine_candidates.proofs.Setting.{more_counts}
use Rattle.fvn_combine_candidates.proofs.tagging.option_counts.Goals as goal

pub loop-c-preserved : goal.loop-c-preserved
loop-c-preserved c =
    more_counts c.args.shared.now c.loop-c.c-index c.c-item.result c.loop-c-test.true c.c-item.is c.loop-c.counts.items c.push.new.self.items
    (c.in_ok-push.ensures.items ∙ ap (λ n. c.loop-c.counts.items ++ (n + 1) ∷ []) c.len.ensures) c.loop-c.invariant
