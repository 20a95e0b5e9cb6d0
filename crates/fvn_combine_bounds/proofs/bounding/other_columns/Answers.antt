-- One more column.
use Rattle.std.proofs.Common.{◌+◌, length, sym, ◌∙◌, subst, arith}
use Rattle.std.proofs.lemmas.Bool.{false≢true}
use Rattle.fvn_combine_nodes.specs.States.{class_of}
use Rattle.fvn_combine_bounds.specs.Bounding.{AreColumnsBelow}
use Rattle.fvn_combine_bounds.specs.inner.Nodes.{IsOtherColumn}
use Rattle.fvn_combine_bounds.proofs.Listing.{no_columns, one_column, no_column, all_columns}
use Rattle.fvn_combine_bounds.proofs.bounding.other_columns.Goals as goal

pub loop-j-init : goal.loop-j-init
loop-j-init c =
    let P = IsOtherColumn c.args.sig.now c.args.table.now (class_of c.args.state.now) c.args.sums.now in
    subst (AreColumnsBelow P 0) (sym c.new-list.ensures.items) (no_columns P)

pub loop-j-preserved-then-not-is_other_at : goal.loop-j-preserved-then-not-is_other_at
loop-j-preserved-then-not-is_other_at c =
    no_column (IsOtherColumn c.args.sig.now c.args.table.now (class_of c.args.state.now) c.args.sums.now) c.loop-j.j c.loop-j.list.items c.loop-j.invariant
    (λ h. false≢true (sym c.if-not-is_other_at.true ∙ c.is_other_at.ensures.1 h))

pub loop-j-preserved : goal.loop-j-preserved
loop-j-preserved c =
    let P = IsOtherColumn c.args.sig.now c.args.table.now (class_of c.args.state.now) c.args.sums.now in
    subst (AreColumnsBelow P (c.loop-j.j + 1)) (sym c.in_ok-push.ensures.items)
    (one_column P c.loop-j.j c.loop-j.list.items c.loop-j.invariant (c.is_other_at.ensures.0 c.if-not-is_other_at.false))

pub returns : goal.returns
returns c =
    all_columns (IsOtherColumn c.args.sig.now c.args.table.now (class_of c.args.state.now) c.args.sums.now) c.loop-j.j (length c.args.sums.now.columns) c.loop-j.list.items (omega arith) (omega arith) c.loop-j.invariant
