-- What may be parted is so under a unifier that stands for each.
use Rattle.fvn_combine.proofs.Standing.{parted_admitted}
use Rattle.fvn_combine.proofs.looking.worth_asking.Goals as goal

pub returns-then-branch : goal.returns-then-branch
returns-then-branch c =
    let may = c.in_ok-may_part.ensures c.if-branch.true in
    (c.requires.left, c.requires.right, c.requires.open, parted_admitted c.args.task.now c.recall.ensures c.loose_classes_part.ensures c.args.state.now c.requires.closed c.args.i c.args.j may)

pub may_part-requires : goal.may_part-requires
may_part-requires c = record {
  closed = c.requires.closed;
  reading = c.requires.reading;
  heads = c.requires.heads;
  sorted = c.requires.sorted;
  left = c.requires.left;
  right = c.requires.right;
}
