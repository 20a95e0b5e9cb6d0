-- The form before it is the same.
use Rattle.std.proofs.Common.{arith}
use Rattle.fvn_narrow.proofs.Two.{again_at}
use Rattle.fvn_narrow.proofs.summing.stands_again.Goals as goal

pub returns : goal.returns
returns c = λ yes.
    again_at c.args.ts.now c.args.first c.args.place c.index-ts-place.result c.index-ts-place-2.result (omega (arith, c.if-place-first.false)) c.requires c.index-ts-place.is c.index-ts-place-2.is (c.same.ensures.exact.0 yes)
