-- The sides in either order.
use Rattle.std.proofs.Common.{◌<◌, All, length, sym, subst}
use Rattle.fvn_combine_inferring.specs.Rows.{AreSides}
use Rattle.fvn_combine_inferring.proofs.Told.{other_side}
use Rattle.fvn_combine_inferring.proofs.held.note_row.Goals as goal

pub note_wholes-requires : goal.note_wholes-requires
note_wholes-requires c =
    let P = All (λ k. k < length c.args.table.now.nodes) in
    let sides = AreSides c.args.sig.now c.args.table.now c.args.state.now c.args.addition.now.operator in
    record {
      closed = c.requires.closed;
      sums = c.requires.sums;
      heads = c.requires.heads;
      addition = c.requires.addition;
      held = c.requires.held;
      left = subst P (sym c.as_slice-left.ensures.value) c.requires.left;
      right = subst P (sym c.as_slice-right.ensures.value) c.requires.right;
      sides = subst (λ l. sides l c.as_slice-right.result.now) (sym c.as_slice-left.ensures.value) (subst (sides c.args.row.now.left.items) (sym c.as_slice-right.ensures.value) c.requires.sides);
    }

pub note_wholes-requires-2 : goal.note_wholes-requires-2
note_wholes-requires-2 c =
    let P = All (λ k. k < length c.args.table.now.nodes) in
    let sides = AreSides c.args.sig.now c.args.table.now c.args.state.now c.args.addition.now.operator in
    record {
      closed = c.requires.closed;
      sums = c.requires.sums;
      heads = c.requires.heads;
      addition = c.requires.addition;
      held = c.in_ok-note_wholes.ensures;
      left = subst P (sym c.as_slice-right.ensures.value) c.requires.right;
      right = subst P (sym c.as_slice-left.ensures.value) c.requires.left;
      sides = subst (λ l. sides l c.as_slice-left.result.now) (sym c.as_slice-right.ensures.value) (subst (sides c.args.row.now.right.items) (sym c.as_slice-left.ensures.value) (other_side c.args.sig.now c.args.table.now c.args.state.now c.args.known.now.sorted c.args.addition.now.operator c.args.row.now.left.items c.args.row.now.right.items c.requires.sides));
    }
