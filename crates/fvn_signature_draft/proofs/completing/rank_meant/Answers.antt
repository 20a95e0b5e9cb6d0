-- The arguments that are meant, one more.
use Rattle.fvn_signature_draft.specs.Collected.{meant_or_kind}
use Rattle.fvn_signature_draft.proofs.MapSteps.{map_step}
use Rattle.fvn_signature_draft.proofs.completing.rank_meant.Goals as goal

pub loop-s-preserved : goal.loop-s-preserved
loop-s-preserved c = rw c.in_ok-push.ensures.items (map_step (meant_or_kind c.args.collected.now c.args.declaration.now.partial) c.as_slice-s-items.result.now c.loop-s.s-index c.loop-s.args.items _ c.loop-s-test.true c.loop-s.invariant c.meant_or_kind.ensures)
