-- What the last state asks for is done; where a system is refused, nothing is.
use Rattle.std.proofs.Common.{refl, subst}
use Rattle.fvn_combine.proofs.Ends.{coarser_first}
use Rattle.fvn_combine.specs.inner.Found.{IsLooked}
use Rattle.fvn_combine.proofs.stepping.take_step.Goals as goal

pub ask_last-requires : goal.ask_last-requires
ask_last-requires c = record { closed = c.requires.closed; ordered = c.requires.ordered; looked = subst (IsLooked c.args.task.now c.args.tree.now) c.in-Open.is c.in_ok-look.ensures }

pub meet_last-requires : goal.meet_last-requires
meet_last-requires c = record { closed = c.requires.closed; ordered = c.requires.ordered; looked = subst (IsLooked c.args.task.now c.args.tree.now) c.in-Together.is c.in_ok-look.ensures }

pub part_last-requires : goal.part_last-requires
part_last-requires c = record { closed = c.requires.closed; ordered = c.requires.ordered; looked = subst (IsLooked c.args.task.now c.args.tree.now) c.in-Apart.is c.in_ok-look.ensures }

pub part_last_general-requires : goal.part_last_general-requires
part_last_general-requires c = record { closed = c.requires.closed; ordered = c.requires.ordered; looked = subst (IsLooked c.args.task.now c.args.tree.now) c.in-Parted.is c.in_ok-look.ensures }

pub part_last_all-requires : goal.part_last_all-requires
part_last_all-requires c = record { closed = c.requires.closed; ordered = c.requires.ordered; looked = subst (IsLooked c.args.task.now c.args.tree.now) c.in-PartedAll.is c.in_ok-look.ensures }

pub pass_last-requires : goal.pass_last-requires
pass_last-requires c = record { closed = c.requires.closed; ordered = c.requires.ordered; looked = subst (IsLooked c.args.task.now c.args.tree.now) c.in-Passed.is c.in_ok-look.ensures }

pub open_last-requires : goal.open_last-requires
open_last-requires c = record { closed = c.requires.closed; ordered = c.requires.ordered; looked = subst (IsLooked c.args.task.now c.args.tree.now) c.in-Leaf.is c.in_ok-look.ensures }

pub returns-in-Refused-clause-stepped : goal.returns-in-Refused-clause-stepped
returns-in-Refused-clause-stepped c =
    let l = subst (IsLooked c.args.task.now c.args.tree.now) c.in-Refused.is c.in_ok-look.ensures in
    let first = coarser_first c.args.task.now c.args.tree.now l.below l.last l.is c.requires.closed c.requires.ordered in
    (l.looked.0, record { below = l.below; last = l.last; is = l.is; refused = l.looked.1; coarser_first = first }, refl, refl)
