-- Under a neutral operator no column is so, and else the narrow ones.
use Rattle.std.proofs.Common.{length, sym, subst}
use Rattle.std.proofs.lemmas.Bool.{iff_false}
use Rattle.fvn_combine_nodes.specs.States.{class_of}
use Rattle.fvn_combine_bounds.specs.Bounding.{AreColumnsBelow}
use Rattle.fvn_combine_bounds.specs.inner.Nodes.{IsNarrowColumn, IsCappedColumn}
use Rattle.fvn_combine_bounds.proofs.Listing.{never_columns, same_columns}
use Rattle.fvn_combine_bounds.proofs.bounding.capped_columns.Goals as goal

pub returns-then-neutral : goal.returns-then-neutral
returns-then-neutral c =
    let s = c.args.sums.now in
    let P = IsCappedColumn c.args.sig.now c.args.table.now (class_of c.args.state.now) s in
    subst (AreColumnsBelow P (length s.columns)) (sym c.new.ensures.items)
    (never_columns P (length s.columns) (λ j h. h.1 (c.requires.neutral.0 c.if-neutral.true)))

pub returns : goal.returns
returns c =
    let s = c.args.sums.now in
    let class = class_of c.args.state.now in
    let not_neutral = iff_false c.requires.neutral c.if-neutral.false in
    same_columns (IsNarrowColumn c.args.sig.now c.args.table.now class s) (IsCappedColumn c.args.sig.now c.args.table.now class s) (length s.columns) c.in_ok-list.list.items
    (λ j l. (λ h. (h, not_neutral), λ h. h.0)) c.in_ok-list.ensures
