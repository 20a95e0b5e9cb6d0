-- The row of a sum.
use Rattle.std.proofs.Common.{length, sym, ap, subst, arith}
use Rattle.fvn_combine_nodes.specs.States.{class_of}
use Rattle.fvn_combine_inferring.specs.inner.Splits.{AreWithin, IsReduced}
use Rattle.fvn_combine_inferring.proofs.Values.{name_within, split_within, splits_within}
use Rattle.fvn_combine_inferring.proofs.Sides.{row_holds, side_within}
use Rattle.fvn_combine_inferring.proofs.rows.row_at.Goals as goal

pub reduced-requires : goal.reduced-requires
reduced-requires c =
    let a = c.args.addition.now in
    let is = c.requires.addition in
    let e = c.as_slice.ensures in
    let within = splits_within c.args.sig.now c.args.table.now c.args.state.now c.requires.closed c.recall_well_made.ensures a.operator a.splits is.splits in
    let n = is.splits.as_many in
    let m = ap length e in
    let here = name_within c.args.sig.now c.args.table.now c.args.state.now c.requires.closed c.args.i c.requires.within in
    let named = c.class_of-in-Some.ensures in
    let both = split_within c.args.sig.now c.args.table.now c.args.state.now c.requires.closed c.recall_well_made.ensures a.operator (class_of c.args.state.now c.args.i) c.in-Some.p c.in-Some.ensures in
    let p = both.0 in
    let q = both.1 in
    record {
      splits = subst AreWithin (sym e) within;
      whole = omega (arith, n, m, here, named);
      first = omega (arith, n, m, p);
      second = omega (arith, n, m, q);
    }

pub returns-in_ok-row-in-Some : goal.returns-in_ok-row-in-Some
returns-in_ok-row-in-Some c =
    let d = c.args.sig.now in
    let t = c.args.table.now in
    let s = c.args.state.now in
    let a = c.args.addition.now in
    let k = class_of s c.args.i in
    let reduced = subst (λ l. IsReduced l a.unit k c.in-Some.p.0 c.in-Some.p.1 c.in_ok-row-in-Some.row) c.as_slice.ensures (subst (λ n. IsReduced c.as_slice.result.now a.unit n c.in-Some.p.0 c.in-Some.p.1 c.in_ok-row-in-Some.row) c.class_of-in-Some.ensures c.in_ok-row-in-Some.ensures) in
    record {
      sides = row_holds d t c.recall_well_made.ensures c.requires.sums s c.requires.closed a c.requires.addition k c.in-Some.p c.in-Some.ensures c.in_ok-row-in-Some.row reduced;
      left = side_within d t c.recall_well_made.ensures c.requires.sums s c.requires.closed a c.requires.addition c.in_ok-row-in-Some.row.left.items reduced.left;
      right = side_within d t c.recall_well_made.ensures c.requires.sums s c.requires.closed a c.requires.addition c.in_ok-row-in-Some.row.right.items reduced.right;
    }
