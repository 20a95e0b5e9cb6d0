-- Where sorts are heeded they are kept.
use Rattle.fvn_combine.proofs.combiner.Combiner.most_general.Goals as goal

pub returns-clause-all : goal.returns-clause-all
returns-clause-all c = λ u unifies keeps. c.in_ok-combiner.ensures.all u unifies (λ _. keeps)
