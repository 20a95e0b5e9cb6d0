-- The place of a name is a declared sort.
use Rattle.std.proofs.Common.{◌<◌, [], length, map, sym, subst, arith}
use Rattle.fvn_forms.specs.SortOrder.{sort_number}
use Rattle.fvn_syntax.specs.Names.{sort_at}
use Rattle.fvn_syntax.proofs.TextLemmas.{place-below}
use Rattle.fvn_module_names.specs.Order.{with_sort}
use Rattle.fvn_module_names.specs.inner.Joining.{IsJoinedBy}
use Rattle.fvn_module_names.proofs.JoinLemmas.{joined-one}
use Rattle.fvn_module_names.proofs.order.join_name.Goals as goal
use Rattle.fvn_module_names.proofs.order.join_name.Goals.{In-Some}

below : (c : In-Some) → c.in-Some.i < length c.args.classes
below c = let l = place-below c.args.sorts.now c.args.name.now c.in-Some.i (sym c.in-Some.ensures) in let m = c.requires.as_many in omega arith

pub join-requires-clause-a : goal.join-requires-clause-a
join-requires-clause-a c = below c

pub returns-in_ok-classes-in-Some : goal.returns-in_ok-classes-in-Some
returns-in_ok-classes-in-Some c =
    subst (λ o. IsJoinedBy c.args.classes c.in_ok-classes-in-Some.classes (map (λ s. (s, sort_number c.args.with)) (with_sort (sort_at o) []))) c.in-Some.ensures
    (joined-one c.args.classes c.in_ok-classes-in-Some.classes c.in-Some.i c.args.with (below (goal.at.returns-in_ok-classes-in-Some c).In-Some) (let w = c.requires.with in let m = c.requires.as_many in omega arith) c.in_ok-classes-in-Some.ensures)
