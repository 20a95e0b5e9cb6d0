-- The question is that of the task.
use Rattle.std.proofs.Common.{sym, subst}
use Rattle.fvn_combine_leaves.specs.Bases.{HaveAlive}
use Rattle.fvn_combine_leaves.specs.Leaves.{IsNearLeaf, IsQuestion}
use Rattle.fvn_combine_nodes.specs.States.{class_of}
use Rattle.fvn_combine_leaves.specs.Readings.{IsReading}
use Rattle.fvn_combine.specs.Tasks.{Combining}
use Rattle.fvn_combine.proofs.looking.open_touched.Goals as goal

pub question_on_touched-requires-clause-near : goal.question_on_touched-requires-clause-near
question_on_touched-requires-clause-near c = subst (λ (k : Combining). IsNearLeaf k.declarations k.table c.args.state.now) (sym c.task.view_is) c.requires.near

pub question_on_touched-requires-clause-reading : goal.question_on_touched-requires-clause-reading
question_on_touched-requires-clause-reading c = subst (λ (k : Combining). IsReading k.declarations k.table (class_of c.args.state.now) c.args.reading.now) (sym c.task.view_is) c.requires.reading

pub question_on_touched-requires-clause-alive : goal.question_on_touched-requires-clause-alive
question_on_touched-requires-clause-alive c = subst (λ (k : Combining). HaveAlive k.declarations k.table c.args.state.now c.args.reading.now.sums c.args.bases.now) (sym c.task.view_is) c.requires.alive

pub returns : goal.returns
returns c = subst (λ (k : Combining). IsQuestion k.declarations k.table c.args.labels.now c.args.state.now c.question_on_touched.result) c.task.view_is c.question_on_touched.ensures
