-- No remainder is left just of a multiple.
use Rattle.fvn_match.proofs.Hopeless.{multiple_test}
use Rattle.fvn_match.proofs.refusing.is_multiple.Goals as goal

pub returns : goal.returns
returns c = multiple_test c.args.k c.args.n c.requires
