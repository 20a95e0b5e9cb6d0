-- As many as pay.
use Rattle.std.proofs.Common.{inr, arith}
use Rattle.fvn_fold.proofs.Shares.{shares_within}
use Rattle.fvn_fold.proofs.sharing.sharers.Goals as goal

pub returns-clause-some : goal.returns-clause-some
returns-clause-some c = omega (arith, c.if-none.false)

pub returns-clause-most : goal.returns-clause-most
returns-clause-most c = omega (arith, c.piece_count-count.ensures)

pub returns-clause-worth : goal.returns-clause-worth
returns-clause-worth c = inr (shares_within c.piece_count-count.result c.args.work c.args.worth (omega (arith, c.piece_count-count.ensures)))
