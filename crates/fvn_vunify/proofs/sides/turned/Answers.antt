-- One more pair.
use Rattle.fvn_vunify.proofs.InTurn.{turn_next}
use Rattle.fvn_vunify.proofs.sides.turned.Goals as goal

pub loop-pair-preserved : goal.loop-pair-preserved
loop-pair-preserved c =
    turn_next c.loop-pair.yielded c.in-Some.pair c.loop-pair.sides.items c.push.new.self.items c.push-in-loop-pair.new.self.items c.loop-pair.invariant c.in_ok-push.ensures.items c.in_ok-push-2.ensures.items
