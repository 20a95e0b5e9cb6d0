-- The pair is proper, and its class is within itself.
use Rattle.std.proofs.Common.{refl, sym, arith}
use Rattle.fvn_combine_inferring.proofs.Sizing.{said}
use Rattle.fvn_combine_inferring.proofs.sizes.begins_circle.Goals as goal

pub returns-then-pair : goal.returns-then-pair
returns-then-pair c t w all one =
    let pair = c.args.pair.now in
    let l = said w pair pair.small pair.small c.if-not-pair.false refl (sym c.if-pair.true) one in
    omega (arith, l)

pub returns : goal.returns
returns c t w all one = let l = c.is_reached.ensures t w all in omega (arith, l)
