-- What is known and held is of the task.
use Rattle.std.proofs.Common.{All, sym, subst}
use Rattle.fvn_flat.specs.Solving.{problem_of}
use Rattle.fvn_combine_nodes.specs.States.{IsClosed, class_of}
use Rattle.fvn_combine_leaves.specs.Readings.{IsReading}
use Rattle.fvn_combine_inferring.specs.Inferred.{TellHeads}
use Rattle.fvn_combine_inferring.specs.Rows.{IsHeld}
use Rattle.fvn_combine_loose.specs.Loose.{AreHeights}
use Rattle.fvn_combine.specs.Tasks.{Combining}
use Rattle.fvn_combine.proofs.heights.heights_of.Goals as goal

pub held_parts-requires : goal.held_parts-requires
held_parts-requires c = record {
  closed = subst (λ (k : Combining). IsClosed k.declarations k.table c.args.state.now) (sym c.task.view_is) c.requires.closed;
  sums = c.tables_have_sums.ensures c.task.inside.sig.now c.task.invariant.good.fits (problem_of c.task.inside.problem.now) c.task.invariant.is_given.kinds c.task.inside.table c.task.invariant.well_made c.task.invariant.table_of;
  reading = subst (λ (k : Combining). IsReading k.declarations k.table (class_of c.args.state.now) c.args.reading.now) (sym c.task.view_is) c.requires.reading;
  heads = subst (λ (k : Combining). TellHeads k.declarations k.table c.args.state.now c.args.known.now.sorted c.args.known.now.heads.items) (sym c.task.view_is) c.requires.heads;
}

pub loose_heights-requires : goal.loose_heights-requires
loose_heights-requires c = record {
  closed = subst (λ (k : Combining). IsClosed k.declarations k.table c.args.state.now) (sym c.task.view_is) c.requires.closed;
  held = subst (All (IsHeld c.task.inside.sig.now c.task.inside.table c.args.state.now c.args.known.now.sorted)) (sym c.as_slice.ensures.value) c.in_ok-held.ensures;
}

pub returns : goal.returns
returns c =
    subst (λ (k : Combining). All (AreHeights k.declarations k.table c.args.state.now c.args.known.now.sorted) c.in_ok-heights.heights.items) c.task.view_is c.in_ok-heights.ensures
