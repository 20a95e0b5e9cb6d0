-- A list that is not empty.
use Rattle.fvn_match.proofs.OneMore.{first_parted}
use Rattle.fvn_match.proofs.waiting.first_sum.Goals as goal

pub returns : goal.returns
returns c = first_parted c.args.sums.now c.index-sums-0.result c.requires c.index-sums-0.is
