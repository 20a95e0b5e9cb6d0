-- The law, by its lemma.
use Rattle.fvn_theory.specs.Equations.{equations_of}
use Rattle.fvn_critical_pairs.proofs.Diverging.{diverging}
use Rattle.fvn_critical_pairs.proofs.laws.divergence_excludes_confluence.Goals as goal

pub returns : goal.returns
returns c = λ d equations m n t u w confluent. diverging d equations (c.rewriting_is_lawful.ensures d (equations_of equations)) m n t u w confluent
