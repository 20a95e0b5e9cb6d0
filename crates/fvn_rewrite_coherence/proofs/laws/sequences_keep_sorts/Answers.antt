-- The law, by its lemma.
use Rattle.fvn_rewrite_laws.specs.Kinds.{HaveOneKind}
use Rattle.fvn_rewrite_coherence.proofs.SortSteps.{sequence_keeps_sorts}
use Rattle.fvn_rewrite_coherence.proofs.laws.sequences_keep_sorts.Goals as goal

pub returns : goal.returns
returns c = λ d good completed equations admissible decreasing.
    let kinded : HaveOneKind d equations = λ equation listed. (admissible equation listed).kinded.kinds in
    sequence_keeps_sorts d good equations admissible completed (c.rewriting_is_lawful.ensures d equations) (c.kinded_theories_are_lawful.ensures d good.fits equations kinded) decreasing
