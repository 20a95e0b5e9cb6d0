-- The law, by its lemmas.
use Rattle.fvn_rewrite_laws.specs.Kinds.{HaveOneKind}
use Rattle.fvn_lifting.proofs.Stepping.{is_step}
use Rattle.fvn_lifting.proofs.laws.successors_are_steps.Goals as goal

pub returns : goal.returns
returns c = λ d good completed equations admissible vars v w fits step.
    let kinded : HaveOneKind d equations = λ equation listed. (admissible equation listed).kinded.kinds in
    is_step d good equations (c.rewriting_is_lawful.ensures d equations) (c.rules_are_lawful.ensures d good completed equations kinded)
    (c.kinded_theories_are_lawful.ensures d good.fits equations kinded) vars v w fits step
    (λ t h. c.instances_step_at_parts.ensures d good completed equations admissible t h step.unifier step.unifies.0)
