-- A rank that gives a higher sort, or takes an argument of the sort.
use Rattle.std.proofs.Common.{sym, ◌∙◌}
use Rattle.std.proofs.lemmas.Bool.{false≢true}
use Rattle.fvn_match.proofs.wholes.rank_keeps_low.Goals as goal

pub returns-then-not-may : goal.returns-then-not-may
returns-then-not-may c = λ yes low. absurd (false≢true (sym c.if-not-may.true ∙ c.gives-may.ensures.1 low))

pub returns : goal.returns
returns c = λ yes low. c.takes_low.ensures yes
