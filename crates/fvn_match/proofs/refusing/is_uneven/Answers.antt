-- All patterns take multiples, and what is left of some piece is none.
use Rattle.fvn_match.proofs.refusing.is_uneven.Goals as goal

pub are_multiples-even-requires : goal.are_multiples-even-requires
are_multiples-even-requires c = c.alike-k.ensures.some

pub has_remainder-requires : goal.has_remainder-requires
has_remainder-requires c = c.alike-k.ensures.some

pub returns : goal.returns
returns c = λ yes. record { times = c.alike-k.result; patterns = c.are_multiples-even.ensures c.if-not-even.false; left = c.has_remainder.ensures yes }
