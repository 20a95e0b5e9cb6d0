-- What differs under all values is in two classes under each unifier, and what may be parted under one that stands for each.
use Rattle.std.proofs.Common.{◌<◌, length, sym, subst}
use Rattle.fvn_flat.specs.Solving.{problem_of}
use Rattle.fvn_combine_nodes.specs.States.{IsClosed}
use Rattle.fvn_combine_inferring.specs.Inferred.{TellHeads, HaveTwoValues}
use Rattle.fvn_combine.specs.Tasks.{Combining}
use Rattle.fvn_combine.proofs.Inferring.{apart_admitted}
use Rattle.fvn_combine.proofs.Standing.{parted_admitted}
use Rattle.fvn_combine.proofs.looking.asked.Goals as goal

pub differ-requires : goal.differ-requires
differ-requires c = record {
  closed = subst (λ (k : Combining). IsClosed k.declarations k.table c.args.state.now) (sym c.task.view_is) c.requires.closed;
  sums = c.tables_have_sums.ensures c.task.inside.sig.now c.task.invariant.good.fits (problem_of c.task.inside.problem.now) c.task.invariant.is_given.kinds c.task.inside.table c.task.invariant.well_made c.task.invariant.table_of;
  heads = subst (λ (k : Combining). TellHeads k.declarations k.table c.args.state.now c.args.known.now.sorted c.args.known.now.heads.items) (sym c.task.view_is) c.requires.heads;
  left = subst (λ (k : Combining). c.args.i < length k.table.nodes) (sym c.task.view_is) c.requires.left;
  right = subst (λ (k : Combining). c.args.j < length k.table.nodes) (sym c.task.view_is) c.requires.right;
}

pub returns-then-differ : goal.returns-then-differ
returns-then-differ c = (
  c.requires.left,
  c.requires.right,
  c.requires.open,
  apart_admitted c.args.task.now c.recall.ensures c.sorted_unifiers_go_with.ensures c.args.state.now c.requires.closed c.args.i c.args.j c.requires.left c.requires.right
      (subst (λ b. HaveTwoValues c.args.task.now.declarations c.args.task.now.table c.args.state.now b c.args.i c.args.j) c.requires.sorted
      (subst (λ (k : Combining). HaveTwoValues k.declarations k.table c.args.state.now c.args.known.now.sorted c.args.i c.args.j) c.task.view_is (c.differ.ensures c.if-differ.true))),
)

pub returns-then-branch : goal.returns-then-branch
returns-then-branch c =
    let may = c.in_ok-may_part.ensures c.if-branch.true in
    (c.requires.left, c.requires.right, c.requires.open, parted_admitted c.args.task.now c.recall.ensures c.loose_classes_part.ensures c.args.state.now c.requires.closed c.args.i c.args.j may)

pub may_part-requires : goal.may_part-requires
may_part-requires c = record {
  closed = c.requires.closed;
  reading = c.requires.reading;
  heads = c.requires.heads;
  sorted = c.requires.sorted;
  left = c.requires.left;
  right = c.requires.right;
}
