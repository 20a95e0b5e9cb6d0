-- one more mark
use Rattle.fvn_cover.proofs.PieceFacts.{marks_more}
use Rattle.fvn_cover.proofs.marking.marked.Goals as goal

pub loop-c-preserved : goal.loop-c-preserved
loop-c-preserved c =
    rw c.in_ok-push.ensures.items
    (marks_more c.args.sig.now c.args.kept.now c.args.candidates.now c.loop-c.c-index c.c-item.result c.loop-c.marks.items c.in_ok-mark.mark c.loop-c-test.true c.c-item.is c.loop-c.invariant c.in_ok-mark.ensures)
