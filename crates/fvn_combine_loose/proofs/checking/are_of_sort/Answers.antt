-- One node more.
use Rattle.fvn_combine_loose.specs.inner.Checks.{IsOfSort}
use Rattle.fvn_combine_loose.proofs.Checked.{one_more}
use Rattle.fvn_combine_loose.proofs.checking.are_of_sort.Goals as goal

pub loop-j-preserved : goal.loop-j-preserved
loop-j-preserved c =
    one_more (IsOfSort c.args.sig.now c.args.table.now c.args.state.now c.args.i c.args.sort) c.loop-j.j c.loop-j.invariant
    (c.is_of_sort.ensures c.if-not-is_of_sort.false)
