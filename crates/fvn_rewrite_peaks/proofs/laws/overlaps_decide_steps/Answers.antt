-- The law, by that of stand-ins.
use Rattle.fvn_rewrite_laws.specs.Kinds.{HaveOneKind}
use Rattle.fvn_rewrite_peaks.proofs.Themselves.{stand_for_themselves}
use Rattle.fvn_rewrite_peaks.proofs.laws.overlaps_decide_steps.Goals as goal

pub returns : goal.returns
returns c = λ d good completed equations admissible decreasing overlaps.
    let kinds : HaveOneKind d equations = λ equation i. (admissible equation i).kinded.kinds in
    c.stand_ins_decide_steps.ensures d good completed equations admissible decreasing
    (stand_for_themselves d equations admissible (c.rules_are_lawful.ensures d good completed equations kinds) overlaps)
