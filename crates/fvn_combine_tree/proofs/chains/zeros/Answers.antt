-- One more zero.
use Rattle.std.proofs.Common.{◌+◌, length, ap, ◌∙◌}
use Rattle.std.proofs.lemmas.List.{length_push}
use Rattle.fvn_combine_tree.proofs.chains.zeros.Goals as goal

pub loop-i-preserved : goal.loop-i-preserved
loop-i-preserved c = ap length c.in_ok-push.ensures.items ∙ length_push c.loop-i.list.items 0 ∙ ap (λ n. n + 1) c.loop-i.invariant
