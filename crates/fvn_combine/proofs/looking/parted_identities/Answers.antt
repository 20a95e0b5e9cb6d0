-- What is parted is so in the task, where more general unifiers are enough.
use Rattle.std.proofs.Common.{◌≡◌, true, sym, subst, All}
use Rattle.std.proofs.lemmas.List.Elements.{All-nil}
use Rattle.fvn_combine_nodes.specs.States.{IsClosed}
use Rattle.fvn_combine_loose.specs.Loose.{AreHeights, ArePartedOpen}
use Rattle.fvn_combine.specs.Tasks.{Combining}
use Rattle.fvn_combine.specs.inner.Found.{MayPartOpen}
use Rattle.fvn_combine.proofs.Standing.{may_part_open}
use Rattle.fvn_combine.proofs.looking.parted_identities.Goals as goal

pub heights_of-requires : goal.heights_of-requires
heights_of-requires c = record { closed = c.requires.closed; reading = c.requires.reading; heads = c.requires.heads }

pub open_identities-requires : goal.open_identities-requires
open_identities-requires c =
    let heights = AreHeights c.args.task.now.declarations c.args.task.now.table c.args.state.now c.args.known.now.sorted in
    record {
      closed = subst (λ (k : Combining). IsClosed k.declarations k.table c.args.state.now) (sym c.task.view_is) c.requires.closed;
      heights = subst (λ (k : Combining). All (AreHeights k.declarations k.table c.args.state.now c.args.known.now.sorted) c.as_slice-all.result.now) (sym c.task.view_is) (subst (All heights) (sym c.as_slice-all.ensures.value) c.in_ok-loose.ensures);
    }

pub returns-then-not-task : goal.returns-then-not-task
returns-then-not-task c = subst (All (MayPartOpen c.args.task.now c.args.state.now)) (sym c.new.ensures.items) (All-nil (MayPartOpen c.args.task.now c.args.state.now))

pub returns-then-is_empty : goal.returns-then-is_empty
returns-then-is_empty c = subst (All (MayPartOpen c.args.task.now c.args.state.now)) (sym c.new-then-is_empty.ensures.items) (All-nil (MayPartOpen c.args.task.now c.args.state.now))

pub returns : goal.returns
returns c =
    may_part_open c.args.task.now (subst (λ (k : Combining). k.general ≡ true) c.task.view_is c.if-not-task.false) c.args.state.now c.in_ok-pairs.pairs.items
    (subst (λ b. All (ArePartedOpen c.args.task.now.declarations c.args.task.now.table c.args.state.now b) c.in_ok-pairs.pairs.items) c.requires.sorted
    (subst (λ (k : Combining). All (ArePartedOpen k.declarations k.table c.args.state.now c.args.known.now.sorted) c.in_ok-pairs.pairs.items) c.task.view_is c.in_ok-pairs.ensures))
