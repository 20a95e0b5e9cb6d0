-- The law is a lemma.
use Rattle.fvn_module.proofs.GoodModules.{module-good}
use Rattle.fvn_module.proofs.laws.modules_are_good.Goals as goal

pub returns : goal.returns
returns c = module-good c.pieces_stand_alone.ensures c.faultless_signatures_are_good.ensures
