-- The question is open; where none is, the refused system is that of a leaf.
use Rattle.std.proofs.Common.{sym, subst, Some}
use Rattle.fvn_combine_nodes.specs.States.{class_of}
use Rattle.fvn_combine_leaves.specs.Leaves.{IsNearLeaf, IsFullLeaf, IsFullQuestion}
use Rattle.fvn_combine_leaves.specs.Readings.{IsReading}
use Rattle.fvn_combine.specs.Tasks.{Combining}
use Rattle.fvn_combine.proofs.Ends.{refused_at}
use Rattle.fvn_combine.proofs.looking.asked_or_refused.Goals as goal

pub returns-in-None : goal.returns-in-None
returns-in-None c =
    let k = c.args.task.now in
    let s = c.args.state.now in
    let is = c.recall.ensures in
    let leaf = subst (λ (k : Combining). IsFullLeaf k.declarations k.table s) c.task.view_is c.in-None.ensures in (
      c.refusals_are_causes.ensures k.declarations k.given k.first is.is_given k.table is.well_made is.table_of (class_of s) c.requires.near.partition c.args.reading.now c.requires.reading c.args.f c.args.system c.requires.refused,
      refused_at k s leaf c.args.reading.now c.requires.reading c.args.f c.args.system c.requires.refused,
    )

pub asked_at_refusal-requires : goal.asked_at_refusal-requires
asked_at_refusal-requires c =
    let q = subst (λ (k : Combining). IsFullQuestion k.declarations k.table c.args.state.now (Some c.in-Some.pair)) c.task.view_is c.in-Some.ensures in
    record { closed = c.requires.near.closed; heads = c.requires.heads; sorted = c.requires.sorted; left = q.0; right = q.1; «open» = q.2 }

pub question_on_all-requires-clause-near : goal.question_on_all-requires-clause-near
question_on_all-requires-clause-near c = subst (λ (k : Combining). IsNearLeaf k.declarations k.table c.args.state.now) (sym c.task.view_is) c.requires.near

pub question_on_all-requires-clause-reading : goal.question_on_all-requires-clause-reading
question_on_all-requires-clause-reading c = subst (λ (k : Combining). IsReading k.declarations k.table (class_of c.args.state.now) c.args.reading.now) (sym c.task.view_is) c.requires.reading
