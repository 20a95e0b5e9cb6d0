-- Nothing stands in the second slices.
use Rattle.std.proofs.lemmas.List.{append-nil}
use Rattle.fvn_match.proofs.matching.matches.Goals as goal

pub returns-clause-some : goal.returns-clause-some
returns-clause-some c = rw (append-nil c.args.pattern.now, append-nil c.args.target.now) at c.in_ok-found.ensures.some
