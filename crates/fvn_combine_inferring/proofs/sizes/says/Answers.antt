-- The pair is proper, and of these classes.
use Rattle.std.proofs.lemmas.Bool.{eqb-true}
use Rattle.fvn_combine_inferring.proofs.Sizing.{said}
use Rattle.fvn_combine_inferring.proofs.sizes.says.Goals as goal

pub returns : goal.returns
returns c t w h = said w c.args.pair.now c.args.k c.args.l c.if-not-pair.false c.if-pair-k.false (eqb-true c.args.pair.now.large c.args.l t) h
