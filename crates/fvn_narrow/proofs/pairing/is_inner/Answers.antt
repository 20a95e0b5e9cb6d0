-- What the tests told.
use Rattle.fvn_narrow.proofs.pairing.is_inner.Goals as goal

pub is_enough-requires : goal.is_enough-requires
is_enough-requires c = record { heads = c.requires.heads; fits = c.requires.fits }

pub returns : goal.returns
returns c = λ yes. record { met = c.in_ok-met.ensures yes; among = c.are_within-within.ensures c.if-not-within.false }
