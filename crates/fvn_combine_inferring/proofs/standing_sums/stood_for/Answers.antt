-- A node with the summands of one side has those of the other.
use Rattle.std.proofs.Common.{◌<◌, All, length, sym, subst}
use Rattle.fvn_combine_inferring.specs.Rows.{AreSides}
use Rattle.fvn_combine_inferring.proofs.Told.{other_side}
use Rattle.fvn_combine_inferring.proofs.Standing.{stands}
use Rattle.fvn_combine_inferring.proofs.standing_sums.stood_for.Goals as goal

pub alone_met-requires : goal.alone_met-requires
alone_met-requires c =
    let d = c.args.sig.now in
    let t = c.args.table.now in
    let s = c.args.state.now in
    let f = c.args.addition.now.operator in
    let l = c.as_slice-left.result.now in
    let r = c.as_slice-right.result.now in
    let sides = subst (λ xs. AreSides d t s f xs r) (sym c.as_slice-left.ensures.value) (subst (AreSides d t s f c.args.row.now.left.items) (sym c.as_slice-right.ensures.value) c.requires.sides) in
    record {
      closed = c.requires.closed;
      within = subst (All (λ k. k < length t.nodes)) (sym c.as_slice-left.ensures.value) c.requires.left;
      one = c.is_alone.ensures c.if-is_alone.true;
      other = c.in_ok-sum.ensures.within;
      sides = stands d t s f l r sides c.in_ok-sum.sum c.in_ok-sum.ensures.sides;
    }

pub alone_met-requires-then-is_alone-2 : goal.alone_met-requires-then-is_alone-2
alone_met-requires-then-is_alone-2 c =
    let d = c.args.sig.now in
    let t = c.args.table.now in
    let s = c.args.state.now in
    let f = c.args.addition.now.operator in
    let l = c.as_slice-left.result.now in
    let r = c.as_slice-right.result.now in
    let sides = subst (λ xs. AreSides d t s f xs r) (sym c.as_slice-left.ensures.value) (subst (AreSides d t s f c.args.row.now.left.items) (sym c.as_slice-right.ensures.value) c.requires.sides) in
    record {
      closed = c.requires.closed;
      within = subst (All (λ k. k < length t.nodes)) (sym c.as_slice-right.ensures.value) c.requires.right;
      one = c.is_alone-2.ensures c.if-is_alone-2.true;
      other = c.in_ok-other.ensures.within;
      sides = stands d t s f r l (other_side d t s c.args.sorted f l r sides) c.in_ok-other.other c.in_ok-other.ensures.sides;
    }
