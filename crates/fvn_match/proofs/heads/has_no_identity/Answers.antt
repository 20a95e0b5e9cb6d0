-- No identity is given.
use Rattle.std.proofs.Common.{sym}
use Rattle.fvn_match.proofs.heads.has_no_identity.Goals as goal

pub returns-in-None : goal.returns-in-None
returns-in-None c = λ yes. sym c.in-None.ensures
