-- The class is unfilled whatever values obey the labels, and all that go with the state do.
use Rattle.std.proofs.Common.{sym, subst}
use Rattle.fvn_flat.specs.Solving.{problem_of}
use Rattle.fvn_combine_nodes.specs.States.{IsClosed, class_of}
use Rattle.fvn_combine_leaves.specs.Bases.{HaveAlive}
use Rattle.fvn_combine_leaves.specs.Readings.{IsReading}
use Rattle.fvn_combine_questions.specs.Unfilled.{HasUnfilled}
use Rattle.fvn_combine.specs.Tasks.{Combining}
use Rattle.fvn_combine.proofs.looking.has_no_values.Goals as goal

pub is_unfilled-requires-clause-closed : goal.is_unfilled-requires-clause-closed
is_unfilled-requires-clause-closed c = subst (λ (k : Combining). IsClosed k.declarations k.table c.args.state.now) (sym c.task.view_is) c.requires.near.closed

pub is_unfilled-requires-clause-reading : goal.is_unfilled-requires-clause-reading
is_unfilled-requires-clause-reading c = subst (λ (k : Combining). IsReading k.declarations k.table (class_of c.args.state.now) c.args.reading.now) (sym c.task.view_is) c.requires.reading

pub is_unfilled-requires-clause-alive : goal.is_unfilled-requires-clause-alive
is_unfilled-requires-clause-alive c = subst (λ (k : Combining). HaveAlive k.declarations k.table c.args.state.now c.args.reading.now.sums c.args.bases.now) (sym c.task.view_is) c.requires.alive

pub returns : goal.returns
returns c = λ unfilled values go.
    let k = c.args.task.now in
    let is = c.recall.ensures in
    let h = subst (λ (k : Combining). HasUnfilled k.declarations k.table c.args.labels.now c.args.state.now) c.task.view_is (c.is_unfilled.ensures unfilled) in
    let sums = c.tables_have_sums.ensures k.declarations is.good.fits (problem_of k.given) is.is_given.kinds k.table is.well_made is.table_of in
    c.unfilled_has_no_values.ensures k.declarations k.table is.well_made sums c.args.state.now c.args.labels.now c.requires.near h.operator h.class h.unfilled values go.go (c.requires.labels values go)
