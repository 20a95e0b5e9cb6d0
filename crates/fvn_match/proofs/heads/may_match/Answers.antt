-- What no candidate makes, no matcher makes.
use Rattle.fvn_match.proofs.KeptHeads.{lost_has_no_matcher}
use Rattle.fvn_match.proofs.heads.may_match.Goals as goal

pub returns : goal.returns
returns c = λ e. lost_has_no_matcher c.args.sig.now c.recall_good.ensures c.args.pattern.now c.args.target.now c.requires.target (c.heads_allow.ensures e)
