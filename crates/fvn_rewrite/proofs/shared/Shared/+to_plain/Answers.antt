-- One more argument as a plain term.
use Rattle.fvn_rewrite.proofs.Seen.{terms_of-step}
use Rattle.fvn_rewrite.proofs.shared.Shared.+to_plain.Goals as goal

pub loop-t-preserved : goal.loop-t-preserved
loop-t-preserved t c =
    terms_of-step c.loop-t.items.items c.push.new.self.items c.in_ok-to_plain-in-App.field-0 c.deref-t-items.result.now c.loop-t.t-index c.t-item.result c.in_ok-push-in-App.ensures.items c.loop-t.invariant c.in_ok-to_plain-in-App.ensures c.loop-t-test.true
    c.t-item.is
