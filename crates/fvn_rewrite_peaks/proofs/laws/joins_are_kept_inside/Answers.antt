-- The law, by its lemma.
use Rattle.fvn_rewrite_peaks.proofs.Joins.{joins_inside}
use Rattle.fvn_rewrite_peaks.proofs.laws.joins_are_kept_inside.Goals as goal

pub returns : goal.returns
returns c = λ d equations. joins_inside d equations (c.sequences_are_lawful.ensures d equations)
