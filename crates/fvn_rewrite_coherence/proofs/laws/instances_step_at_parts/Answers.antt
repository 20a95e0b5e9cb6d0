-- The law, by its lemmas.
use Rattle.fvn_rewrite_laws.specs.Kinds.{HaveOneKind}
use Rattle.fvn_rewrite_coherence.proofs.InstanceSteps.{instance_laws}
use Rattle.fvn_rewrite_coherence.proofs.laws.instances_step_at_parts.Goals as goal

pub returns : goal.returns
returns c = λ d good completed equations admissible t fits s sorted.
    let kinded : HaveOneKind d equations = λ equation listed. (admissible equation listed).kinded.kinds in
    instance_laws d good equations (c.rewriting_is_lawful.ensures d equations) (c.kinded_theories_are_lawful.ensures d good.fits equations kinded)
    (c.agreement_is_lawful.ensures d equations) (c.rules_are_coherent.ensures d good completed equations admissible) t fits s sorted
