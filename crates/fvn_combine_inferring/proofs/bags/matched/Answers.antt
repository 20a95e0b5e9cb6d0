-- It differs from all that it is among, or from all but one.
use Rattle.std.proofs.Common.{sym, ◌∙◌, arith}
use Rattle.fvn_combine_inferring.proofs.Told.{bag_out, bag_one}
use Rattle.fvn_combine_inferring.proofs.bags.matched.Goals as goal

pub returns-in-None : goal.returns-in-None
returns-in-None c = bag_out c.args.sig.now c.args.table.now c.args.state.now c.args.known.now.sorted c.args.addition.now.operator c.args.k c.args.list.now c.requires.one c.requires.among c.in-None.ensures

pub is_open-requires : goal.is_open-requires
is_open-requires c =
    let w = c.requires.closed.whole in
    let k = c.requires.within in
    let l = c.in-Some.ensures in
    record { naming = c.requires.closed.naming; left = omega (arith, w, k); right = omega (arith, w, l) }

pub returns-then-is_open : goal.returns-then-is_open
returns-then-is_open c = record { left = c.requires.within; right = c.in-Some.ensures; undecided = sym c.is_open.ensures ∙ c.if-is_open.true }

pub is_only-requires-clause-list : goal.is_only-requires-clause-list
is_only-requires-clause-list c = c.requires.list

pub met-requires : goal.met-requires
met-requires c = record {
  closed = c.requires.closed;
  left = c.requires.within;
  right = c.in-Some.ensures;
  equal = bag_one c.args.sig.now c.args.table.now c.args.state.now c.args.known.now.sorted c.args.addition.now.operator c.args.k c.in-Some.l c.args.list.now c.requires.one (c.has_few_summands.ensures c.if-not-has_few_summands.false) c.requires.among (c.is_only.ensures c.if-is_only.true);
}
