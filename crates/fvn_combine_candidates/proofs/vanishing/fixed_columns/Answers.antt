-- One column more, and in the end all.
use Rattle.std.proofs.Common.{◌+◌, length, sym, subst, arith}
use Rattle.std.proofs.lemmas.Bool.{iff_false}
use Rattle.fvn_combine_nodes.specs.States.{class_of}
use Rattle.fvn_combine_candidates.specs.inner.Letting.{IsTakenAt, AreOthersBelow}
use Rattle.fvn_combine_candidates.proofs.Letting.{none_below, no_other, one_other, all_others}
use Rattle.fvn_combine_candidates.proofs.vanishing.fixed_columns.Goals as goal

pub loop-j-init : goal.loop-j-init
loop-j-init c =
    let P = IsTakenAt c.args.sig.now c.args.table.now (class_of c.args.state.now) c.args.sums.now c.args.e in
    subst (AreOthersBelow P 0) (sym c.new-list.ensures.items) (none_below P)

pub loop-j-preserved-then-takes_at : goal.loop-j-preserved-then-takes_at
loop-j-preserved-then-takes_at c =
    no_other (IsTakenAt c.args.sig.now c.args.table.now (class_of c.args.state.now) c.args.sums.now c.args.e) c.loop-j.j c.loop-j.list.items c.loop-j.invariant (c.takes_at.ensures.0 c.if-takes_at.true)

pub loop-j-preserved : goal.loop-j-preserved
loop-j-preserved c =
    let P = IsTakenAt c.args.sig.now c.args.table.now (class_of c.args.state.now) c.args.sums.now c.args.e in
    subst (AreOthersBelow P (c.loop-j.j + 1)) (sym c.in_ok-push.ensures.items)
    (one_other P c.loop-j.j c.loop-j.list.items c.loop-j.invariant (iff_false c.takes_at.ensures c.if-takes_at.false))

pub returns : goal.returns
returns c =
    all_others (IsTakenAt c.args.sig.now c.args.table.now (class_of c.args.state.now) c.args.sums.now c.args.e) c.loop-j.j (length c.args.sums.now.columns) c.loop-j.list.items (omega arith) (omega arith) c.loop-j.invariant
