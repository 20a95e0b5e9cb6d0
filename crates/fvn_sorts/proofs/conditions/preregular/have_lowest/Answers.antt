-- Least results, where any two ranks have a third.
use Rattle.std.proofs.Common.{refl}
use Rattle.fvn_sorts.proofs.ThirdLemmas.{have_lowest}
use Rattle.fvn_sorts.proofs.conditions.preregular.have_lowest.Goals as goal

pub returns : goal.returns
returns c h = have_lowest c.args.draft.now.declarations c.args.draft.now.sound.kinded c.args.draft.now.total c.args.draft.now.sound.total c.args.kinds.now c.args.ranks.now c.requires.listed (c.if-not-one_takes.ensures refl) (c.in_ok-all.ensures h)
