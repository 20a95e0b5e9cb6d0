-- The list has the direct subsorts.
use Rattle.fvn_signature.proofs.DirectSubsorts.{direct_subsorts_listed}
use Rattle.fvn_signature.proofs.laws.direct_subsorts_are_listed.Goals as goal

pub returns : goal.returns
returns c = direct_subsorts_listed
