-- One of the two pairs is refused.
use Rattle.fvn_match.proofs.apart.Apart.refuses_two.Goals as goal

pub returns-then-first : goal.returns-then-first
returns-then-first c = λ yes v k agrees made. c.refuses-first.ensures c.if-first.true v k agrees made.0

pub returns : goal.returns
returns c = λ yes v k agrees made. c.refuses.ensures yes v k agrees made.1.0
