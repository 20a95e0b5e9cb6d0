-- The question is open; where none is, it is tried at last whether the minimal solutions may be known.
use Rattle.std.proofs.Common.{sym, subst, Some}
use Rattle.fvn_combine_nodes.specs.States.{class_of}
use Rattle.fvn_combine_leaves.specs.Leaves.{IsNearLeaf, IsFullQuestion}
use Rattle.fvn_combine_leaves.specs.Readings.{IsReading}
use Rattle.fvn_combine.specs.Tasks.{Combining}
use Rattle.fvn_combine.proofs.looking.look_at_passed.Goals as goal

pub asked_at_refusal-requires : goal.asked_at_refusal-requires
asked_at_refusal-requires c =
    let q = subst (λ (k : Combining). IsFullQuestion k.declarations k.table c.args.state.now (Some c.in-Some.pair)) c.task.view_is c.in-Some.ensures in
    record { closed = c.requires.near.closed; heads = c.requires.heads; sorted = c.requires.sorted; left = q.0; right = q.1; «open» = q.2 }

pub question_on_all-requires-clause-near : goal.question_on_all-requires-clause-near
question_on_all-requires-clause-near c = subst (λ (k : Combining). IsNearLeaf k.declarations k.table c.args.state.now) (sym c.task.view_is) c.requires.near

pub question_on_all-requires-clause-reading : goal.question_on_all-requires-clause-reading
question_on_all-requires-clause-reading c = subst (λ (k : Combining). IsReading k.declarations k.table (class_of c.args.state.now) c.args.reading) (sym c.task.view_is) c.requires.reading
