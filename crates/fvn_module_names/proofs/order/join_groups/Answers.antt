-- Each sort of a group is joined with the first one of the other.
use Rattle.std.proofs.Common.{◌≡◌, []}
use Rattle.std.specs.List.{Contains}
use Rattle.fvn_forms.specs.SortOrder.{sort_number}
use Rattle.fvn_module_names.specs.Order.{declared_among}
use Rattle.fvn_module_names.proofs.JoinLemmas.{joined-none}
use Rattle.fvn_module_names.proofs.OrderLemmas.{joined-crossed, first_is, first_none, crossed-none, declared-below}
use Rattle.fvn_module_names.proofs.order.join_groups.Goals as goal
use Rattle.fvn_module_names.proofs.order.join_groups.Goals.{In-Some-first_declared}

pub returns-in_default : goal.returns-in_default
returns-in_default c =
    let none : declared_among c.args.sorts.now c.args.lower.now ≡ [] = first_none _ c.in_default.ensures in
    rw none (joined-none c.args.classes)

pub returns-in_default-first_declared : goal.returns-in_default-first_declared
returns-in_default-first_declared c =
    let none : declared_among c.args.sorts.now c.args.upper.now ≡ [] = first_none _ c.in_default-first_declared.ensures in
    rw (none, crossed-none (declared_among c.args.sorts.now c.args.lower.now)) (joined-none c.args.classes)

module _ (c : In-Some-first_declared) where
  has_low : Contains (declared_among c.args.sorts.now c.args.lower.now) (sort_number c.in-Some.low)
  has_low = first_is _ c.in-Some.low c.in-Some.ensures

  has_high : Contains (declared_among c.args.sorts.now c.args.upper.now) (sort_number c.in-Some-first_declared.high)
  has_high = first_is _ c.in-Some-first_declared.high c.in-Some-first_declared.ensures

pub join_names-requires-clause-with : goal.join_names-requires-clause-with
join_names-requires-clause-with c = declared-below c.args.sorts.now c.args.upper.now (sort_number c.in-Some-first_declared.high) (has_high c)

pub join_names-requires-2-clause-with : goal.join_names-requires-2-clause-with
join_names-requires-2-clause-with c =
    declared-below c.args.sorts.now c.args.lower.now (sort_number c.in-Some.low) (has_low (goal.at.join_names-requires-2-clause-with c).In-Some-first_declared)

pub returns : goal.returns
returns c =
    let d = (goal.at.returns c).In-Some-first_declared in
    joined-crossed c.args.classes c.in_ok-half.half c.in_ok-whole.whole (declared_among c.args.sorts.now c.args.lower.now) (declared_among c.args.sorts.now c.args.upper.now)
    c.in-Some.low c.in-Some-first_declared.high (has_low d) (has_high d) c.in_ok-half.ensures c.in_ok-whole.ensures
