-- The sides of the row, and what is noted of it.
use Rattle.std.proofs.Common.{◌<◌, All, length, sym, subst}
use Rattle.fvn_combine_inferring.specs.Rows.{AreSides}
use Rattle.fvn_combine_inferring.specs.inner.Sizes.{AreInside}
use Rattle.fvn_combine_inferring.proofs.inferring.infer_row.Goals as goal

pub rule-told-requires : goal.rule-told-requires
rule-told-requires c =
    let P = All (λ k. k < length c.args.table.now.nodes) in
    let sides = AreSides c.args.sig.now c.args.table.now c.args.state.now c.args.addition.now.operator in
    record {
      closed = c.requires.closed;
      sums = c.requires.sums;
      heads = c.requires.heads;
      addition = c.requires.addition;
      insides = subst (AreInside c.args.sig.now c.args.table.now c.args.state.now c.args.known.now.sorted) (sym c.as_slice-insides.ensures.value) c.requires.pairs.insides;
      left = subst P (sym c.as_slice-left.ensures.value) c.requires.left;
      right = subst P (sym c.as_slice-right.ensures.value) c.requires.right;
      sides = subst (λ l. sides l c.as_slice-right.result.now) (sym c.as_slice-left.ensures.value) (subst (sides c.args.row.now.left.items) (sym c.as_slice-right.ensures.value) c.requires.sides);
    }

pub note_row-requires : goal.note_row-requires
note_row-requires c = record {
  closed = c.requires.closed;
  sums = c.requires.sums;
  heads = c.requires.heads;
  addition = c.requires.addition;
  pairs = c.requires.pairs;
  left = c.requires.left;
  right = c.requires.right;
  sides = c.requires.sides;
}

pub note_one_sided-requires : goal.note_one_sided-requires
note_one_sided-requires c = record {
  closed = c.requires.closed;
  sums = c.requires.sums;
  pairs = c.requires.pairs;
  left = c.requires.left;
  right = c.requires.right;
  sides = c.requires.sides;
}

pub stood_for-requires : goal.stood_for-requires
stood_for-requires c = record {
  closed = c.requires.closed;
  sums = c.requires.sums;
  addition = c.requires.addition;
  left = c.requires.left;
  right = c.requires.right;
  sides = c.requires.sides;
}
