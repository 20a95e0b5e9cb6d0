-- The law, by its lemmas.
use Rattle.fvn_rewrite_laws.specs.Kinds.{HaveOneKind}
use Rattle.fvn_rewrite_coherence.proofs.Coherence.{coherence_laws}
use Rattle.fvn_rewrite_coherence.proofs.laws.rules_are_coherent.Goals as goal

pub returns : goal.returns
returns c = λ d good completed equations admissible.
    let kinded : HaveOneKind d equations = λ equation listed. (admissible equation listed).kinded.kinds in
    coherence_laws d good completed equations admissible (c.rewriting_is_lawful.ensures d equations)
    (c.kinded_theories_are_lawful.ensures d good.fits equations kinded)
    (c.rules_are_lawful.ensures d good completed equations kinded)
