-- The law is a lemma.
use Rattle.fvn_syntax.proofs.WellKinded.{well-kinded}
use Rattle.fvn_syntax.proofs.laws.terms_are_well_kinded.Goals as goal

pub returns : goal.returns
returns c = well-kinded
