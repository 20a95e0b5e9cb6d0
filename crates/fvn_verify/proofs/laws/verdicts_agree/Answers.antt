-- Verdicts agree where the equations are confluent.
use Rattle.fvn_verify.proofs.Agreeing.{verdicts-agree}
use Rattle.fvn_verify.proofs.laws.verdicts_agree.Goals as goal

pub returns : goal.returns
returns c = verdicts-agree c.rewriting_is_lawful.ensures c.theory_equality_is_lawful.ensures
