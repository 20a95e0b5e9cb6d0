-- The side that is empty, and the other one.
use Rattle.std.proofs.Common.{◌≡◌, ◌<◌, [], All, length, sym, ◌∙◌, subst}
use Rattle.std.proofs.lemmas.List.{nil_from_length}
use Rattle.fvn_combine_inferring.specs.Rows.{AreSides}
use Rattle.fvn_combine_inferring.proofs.Told.{other_side}
use Rattle.fvn_combine_inferring.proofs.emptying.note_one_sided.Goals as goal

pub note_emptied-requires : goal.note_emptied-requires
note_emptied-requires c =
    let P = All (λ k. k < length c.args.table.now.nodes) in
    let sides = AreSides c.args.sig.now c.args.table.now c.args.state.now c.args.f in
    let left = c.args.row.now.left.items in
    let none : c.args.row.now.right.items ≡ [] = sym c.as_slice-right.ensures.value ∙ nil_from_length c.as_slice-right.result.now (c.has_none.ensures.0 c.if-has_none.true) in
    record {
      closed = c.requires.closed;
      sums = c.requires.sums;
      pairs = c.requires.pairs;
      within = subst P (sym c.as_slice-left.ensures.value) c.requires.left;
      sides = subst (λ l. sides l []) (sym c.as_slice-left.ensures.value) (subst (sides left) none c.requires.sides);
    }

pub note_emptied-requires-then-has_none-2 : goal.note_emptied-requires-then-has_none-2
note_emptied-requires-then-has_none-2 c =
    let P = All (λ k. k < length c.args.table.now.nodes) in
    let sides = AreSides c.args.sig.now c.args.table.now c.args.state.now c.args.f in
    let left = c.args.row.now.left.items in
    let right = c.args.row.now.right.items in
    let none : left ≡ [] = sym c.as_slice-left.ensures.value ∙ nil_from_length c.as_slice-left.result.now (c.has_none-2.ensures.0 c.if-has_none-2.true) in
    record {
      closed = c.requires.closed;
      sums = c.requires.sums;
      pairs = c.requires.pairs;
      within = subst P (sym c.as_slice-right.ensures.value) c.requires.right;
      sides = subst (λ l. sides l []) (sym c.as_slice-right.ensures.value)
          (subst (sides right) none (other_side c.args.sig.now c.args.table.now c.args.state.now c.args.sorted c.args.f left right c.requires.sides));
    }
