-- Where sorts are not heeded nothing is asked of them.
use Rattle.std.proofs.lemmas.Bool.{false≢true}
use Rattle.fvn_combine.proofs.combiner.Combiner.new.Goals as goal

pub returns-clause-all : goal.returns-clause-all
returns-clause-all c = λ u unifies. c.in_ok-combiner.ensures.all u unifies (λ e. absurd (false≢true e))
