-- What refuses the sum.
use Rattle.fvn_match.proofs.Hopeless.{short_hopeless, uneven_hopeless}
use Rattle.fvn_match.proofs.refusing.is_hopeless.Goals as goal

pub returns-then-short : goal.returns-then-short
returns-then-short c = λ yes. short_hopeless c.args.sig.now c.args.goal.now c.requires (c.is_short-short.ensures c.if-short.true)

pub returns-then-uneven : goal.returns-then-uneven
returns-then-uneven c = λ yes. uneven_hopeless c.args.sig.now c.args.goal.now c.requires (c.is_uneven-uneven.ensures c.if-uneven.true)
