-- The classes of the sum have its summands.
use Rattle.std.proofs.Common.{length, sym, ap, subst, arith}
use Rattle.fvn_combine_nodes.specs.States.{class_of}
use Rattle.fvn_combine_inferring.specs.inner.Splits.{AreWithin, IsSum}
use Rattle.fvn_combine_inferring.proofs.Values.{split_within, splits_within}
use Rattle.fvn_combine_inferring.proofs.Sides.{sum_holds, side_within}
use Rattle.fvn_combine_inferring.proofs.rows.added.Goals as goal

pub sum_of-requires : goal.sum_of-requires
sum_of-requires c =
    let a = c.args.addition.now in
    let is = c.requires.addition in
    let e = c.as_slice.ensures in
    let within = splits_within c.args.sig.now c.args.table.now c.args.state.now c.requires.closed c.recall_well_made.ensures a.operator a.splits is.splits in
    let n = is.splits.as_many in
    let m = ap length e in
    let both = split_within c.args.sig.now c.args.table.now c.args.state.now c.requires.closed c.recall_well_made.ensures a.operator (class_of c.args.state.now c.args.i) c.in-Some.p c.in-Some.ensures in
    let p = both.0 in
    let q = both.1 in
    record {
      splits = subst AreWithin (sym e) within;
      first = omega (arith, n, m, p);
      second = omega (arith, n, m, q);
    }

pub returns-in_ok-list-in-Some : goal.returns-in_ok-list-in-Some
returns-in_ok-list-in-Some c =
    let d = c.args.sig.now in
    let t = c.args.table.now in
    let s = c.args.state.now in
    let a = c.args.addition.now in
    let sum = subst (λ l. IsSum l c.in-Some.p.0 c.in-Some.p.1 c.in_ok-list-in-Some.list.items) c.as_slice.ensures c.in_ok-list-in-Some.ensures in
    record {
      sides = sum_holds d t c.recall_well_made.ensures c.requires.sums s c.requires.closed a c.requires.addition c.args.i c.requires.within c.in-Some.p c.in-Some.ensures c.in_ok-list-in-Some.list.items sum;
      within = side_within d t c.recall_well_made.ensures c.requires.sums s c.requires.closed a c.requires.addition c.in_ok-list-in-Some.list.items sum.below;
    }
