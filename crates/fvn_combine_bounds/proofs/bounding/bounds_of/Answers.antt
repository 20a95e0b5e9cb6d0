-- A column is used exactly where it is marked.
use Rattle.std.proofs.Common.{length, sym, subst}
use Rattle.fvn_combine_nodes.specs.States.{class_of}
use Rattle.fvn_combine_bounds.specs.Bounding.{AreColumnsBelow, IsNarrowAt, IsOtherAt}
use Rattle.fvn_combine_bounds.specs.inner.Nodes.{IsCappedColumn, IsOtherColumn}
use Rattle.fvn_combine_bounds.proofs.Listing.{same_columns}
use Rattle.fvn_combine_bounds.proofs.bounding.bounds_of.Goals as goal

pub returns : goal.returns
returns c =
    let d = c.args.sig.now in
    let t = c.args.table.now in
    let class = class_of c.args.state.now in
    let s = c.args.sums.now in
    let n = length s.columns in
    let sums = c.requires.sums in
    record {
      most = subst (AreColumnsBelow (IsNarrowAt d t class s) n) (sym c.from_vec.ensures)
          (same_columns (IsCappedColumn d t class s) (IsNarrowAt d t class s) n c.in_ok-most.most.items
          (λ j l. (λ h. ((sums.exact j l).0 h.0.0, h.0.1, h.1), λ h. (((sums.exact j l).1 h.0, h.1), h.2))) c.in_ok-most.ensures);
      least = subst (AreColumnsBelow (IsOtherAt d t class s) n) (sym c.from_vec-2.ensures)
          (same_columns (IsOtherColumn d t class s) (IsOtherAt d t class s) n c.in_ok-least.least.items
          (λ j l. (λ h. ((sums.exact j l).0 h.0, h.1), λ h. ((sums.exact j l).1 h.0, h.1))) c.in_ok-least.ensures);
    }
