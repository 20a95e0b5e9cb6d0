-- What is said of all values, of the task.
use Rattle.std.proofs.Common.{◌<◌, length, sym, subst}
use Rattle.fvn_flat.specs.Solving.{problem_of}
use Rattle.fvn_combine_nodes.specs.States.{IsClosed, class_of}
use Rattle.fvn_combine_leaves.specs.Readings.{IsReading}
use Rattle.fvn_combine_drawing.specs.CombineCompleteNeutral.{IsNeutral}
use Rattle.fvn_combine_inferring.specs.Inferred.{TellHeads, IsSumOfNoOther}
use Rattle.fvn_combine.specs.Tasks.{Combining}
use Rattle.fvn_combine.proofs.labels.neutral_label.Goals as goal

pub label_at-requires : goal.label_at-requires
label_at-requires c = record {
  closed = subst (λ (k : Combining). IsClosed k.declarations k.table c.args.state.now) (sym c.task.view_is) c.requires.closed;
  sums = c.tables_have_sums.ensures c.task.inside.sig.now c.task.invariant.good.fits (problem_of c.task.inside.problem.now) c.task.invariant.is_given.kinds c.task.inside.table c.task.invariant.well_made c.task.invariant.table_of;
  reading = subst (λ (k : Combining). IsReading k.declarations k.table (class_of c.args.state.now) c.args.reading.now) (sym c.task.view_is) c.requires.reading;
  heads = subst (λ (k : Combining). TellHeads k.declarations k.table c.args.state.now c.args.known.now.sorted c.args.known.now.heads.items) (sym c.task.view_is) c.requires.heads;
  within = subst (λ (k : Combining). c.args.k < length k.table.nodes) (sym c.task.view_is) c.requires.within;
}

pub returns-then-is_neutral : goal.returns-then-is_neutral
returns-then-is_neutral c = record {
  named = c.requires.named;
  other = subst (λ b. IsSumOfNoOther c.args.task.now.declarations c.args.task.now.table c.args.state.now b c.in-Some.f c.args.k) c.requires.sorted
      (subst (λ (k : Combining). IsSumOfNoOther k.declarations k.table c.args.state.now c.args.known.now.sorted c.in-Some.f c.args.k) c.task.view_is c.in-Some.ensures);
  neutral = subst (λ (k : Combining). IsNeutral k.declarations c.in-Some.f) c.task.view_is (c.is_neutral.ensures.0 c.if-is_neutral.true);
}
