-- one more variant
use Rattle.std.proofs.lemmas.List.Elements.{All-push}
use Rattle.fvn_tests_folding.specs.Nothing.{IsOfNothing}
use Rattle.fvn_tests_folding.proofs.tests.meetings.members.Goals as goal

pub loop-preserved : goal.loop-preserved
loop-preserved c = rw c.in_ok-push.ensures.items (All-push IsOfNothing c.loop.all.items c.in_ok-nothing.field-0 c.loop.invariant c.in_ok-nothing.ensures)
