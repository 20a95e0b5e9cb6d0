-- The class at this place is a part.
use Rattle.std.proofs.Common.{refl}
use Rattle.fvn_combine_inferring.proofs.HeadsTold.{beside_others}
use Rattle.fvn_combine_inferring.proofs.heads.has_part_in.Goals as goal

pub returns-then-is_part : goal.returns-then-is_part
returns-then-is_part c t =
    beside_others c.args.sig.now c.args.table.now c.args.state.now c.args.known.now.sorted c.args.addition.now.operator c.args.i _ c.args.list.now c.loop-k.k-index c.requires.sides c.loop-k-test.true refl (c.is_part.ensures c.if-is_part.true)

pub is_part-requires-clause-part : goal.is_part-requires-clause-part
is_part-requires-clause-part c = c.requires.parts c.loop-k.k-index 0 c.loop-k-test.true
