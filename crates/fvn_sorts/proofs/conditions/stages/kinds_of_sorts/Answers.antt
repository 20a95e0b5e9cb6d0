-- The kinds, one more.
use Rattle.fvn_terms.specs.Signature.{kind}
use Rattle.fvn_signature_draft.proofs.MapSteps.{map_step}
use Rattle.fvn_sorts.proofs.conditions.stages.kinds_of_sorts.Goals as goal

pub loop-s-preserved : goal.loop-s-preserved
loop-s-preserved c = rw c.in_ok-push.ensures.items (map_step (kind c.args.declarations.now) c.args.sorts.now c.loop-s.s-index c.loop-s.kinds.items _ c.loop-s-test.true c.loop-s.invariant c.kind.ensures)
