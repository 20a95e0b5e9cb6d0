-- The query tells what the test computes.
use Rattle.fvn_cohere.proofs.Tests.{below_test}
use Rattle.fvn_cohere.proofs.identities.is_at_or_below.Goals as goal

pub returns : goal.returns
returns c = below_test c.args.sig.now c.args.s c.args.q c.leq.result c.leq.ensures
