-- What is parted is so in the task, where more general unifiers are enough.
use Rattle.std.proofs.Common.{◌≡◌, ◌<◌, length, true, sym, subst, All}
use Rattle.fvn_combine_nodes.specs.States.{IsClosed}
use Rattle.fvn_combine_loose.specs.Loose.{AreHeights, AreParted}
use Rattle.fvn_combine.specs.Tasks.{Combining}
use Rattle.fvn_combine.proofs.looking.may_part.Goals as goal

pub heights_of-requires : goal.heights_of-requires
heights_of-requires c = record { closed = c.requires.closed; reading = c.requires.reading; heads = c.requires.heads }

pub are_parted-requires : goal.are_parted-requires
are_parted-requires c =
    let heights = AreHeights c.args.task.now.declarations c.args.task.now.table c.args.state.now c.args.known.now.sorted in
    record {
      closed = subst (λ (k : Combining). IsClosed k.declarations k.table c.args.state.now) (sym c.task.view_is) c.requires.closed;
      heights = subst (λ (k : Combining). All (AreHeights k.declarations k.table c.args.state.now c.args.known.now.sorted) c.as_slice-all.result.now) (sym c.task.view_is) (subst (All heights) (sym c.as_slice-all.ensures.value) c.in_ok-loose.ensures);
      left = subst (λ (k : Combining). c.args.i < length k.table.nodes) (sym c.task.view_is) c.requires.left;
      right = subst (λ (k : Combining). c.args.j < length k.table.nodes) (sym c.task.view_is) c.requires.right;
    }

pub returns : goal.returns
returns c = λ yes. record {
  enough = subst (λ (k : Combining). k.general ≡ true) c.task.view_is c.if-not-task.false;
  parted =
      subst (λ b. AreParted c.args.task.now.declarations c.args.task.now.table c.args.state.now b c.args.i c.args.j) c.requires.sorted
      (subst (λ (k : Combining). AreParted k.declarations k.table c.args.state.now c.args.known.now.sorted c.args.i c.args.j) c.task.view_is (c.are_parted.ensures yes));
}
