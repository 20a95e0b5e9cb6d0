-- The direct subsorts of a kind are its maximal sorts.
use Rattle.fvn_signature.proofs.DirectSubsorts.{direct_subsorts_of_kind}
use Rattle.fvn_signature.proofs.laws.direct_subsorts_of_kinds.Goals as goal

pub returns : goal.returns
returns c d good whole k s is = direct_subsorts_of_kind d good whole k is s
