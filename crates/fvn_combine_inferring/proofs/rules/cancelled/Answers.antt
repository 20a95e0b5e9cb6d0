-- Both sides are one class, equally often.
use Rattle.std.proofs.Common.{length}
use Rattle.fvn_combine_inferring.proofs.Told.{cancelled_met, only_within}
use Rattle.fvn_combine_inferring.proofs.rules.cancelled.Goals as goal

pub met-requires : goal.met-requires
met-requires c =
    let t = c.args.table.now in
    let k = c.in-Some.k in
    let l = c.in-Some-the_one.l in
    record {
      closed = c.requires.closed;
      left = only_within (length t.nodes) k c.args.left.now c.in-Some.ensures.some c.in-Some.ensures.all c.requires.left;
      right = only_within (length t.nodes) l c.args.right.now c.in-Some-the_one.ensures.some c.in-Some-the_one.ensures.all c.requires.right;
      equal = cancelled_met c.args.sig.now t c.args.state.now c.args.sorted c.args.f k l c.args.left.now c.args.right.now c.in-Some.ensures.some (c.are_as_many.ensures.0 c.if-not-are_as_many.false) c.in-Some.ensures.all c.in-Some-the_one.ensures.all c.requires.sides;
    }
