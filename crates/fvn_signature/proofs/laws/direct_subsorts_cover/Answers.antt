-- Whatever is below a sort is at or below one of its direct subsorts.
use Rattle.fvn_signature.proofs.DirectSubsorts.{direct_subsorts_cover}
use Rattle.fvn_signature.proofs.laws.direct_subsorts_cover.Goals as goal

pub returns : goal.returns
returns c = direct_subsorts_cover
