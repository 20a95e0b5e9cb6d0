-- What is above a lower bound that is not below.
use Rattle.fvn_cohere.proofs.Hopeless.{out_of_reach}
use Rattle.fvn_cohere.proofs.outlooks.is_out_of_reach.Goals as goal

pub returns-in-Some : goal.returns-in-Some
returns-in-Some c = λ h. out_of_reach c.args.sig.now c.args.s c.args.low c.in-Some.q c.is_at_or_below.result c.in-Some.is c.is_at_or_below.ensures h
