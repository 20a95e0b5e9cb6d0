-- What a turn finds.
use Rattle.std.proofs.Common.{arith}
use Rattle.fvn_rewrite.proofs.normalising.take_turn.Goals as goal

pub returns-in-Some : goal.returns-in-Some
returns-in-Some c = (omega (arith, c.size.ensures), record { steps = rw c.in-Some.is at c.in_ok-next.ensures.some; fits = rw c.in-Some.is at c.in_ok-next.ensures.fits })

pub returns-in-None : goal.returns-in-None
returns-in-None c = (omega (arith, c.size.ensures), c.in_ok-next.ensures.none c.in-None.is)
