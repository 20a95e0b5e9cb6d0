-- The law, by its lemma.
use Rattle.std.proofs.Common.{map, sym, subst}
use Rattle.fvn_terms.specs.Substitution.{apply}
use Rattle.fvn_terms.specs.Theory.{Equations}
use Rattle.fvn_terms.specs.Rewriting.{IsIrreducible, ListRewrites}
use Rattle.fvn_forms.specs.Flat.{plain}
use Rattle.fvn_rewrite_laws.specs.Admissible.{AreAdmissible}
use Rattle.fvn_lifting.proofs.Meeting.{meets_rule}
use Rattle.fvn_lifting.proofs.laws.instances_meet_rules.Goals as goal

pub returns : goal.returns
returns c = λ d equations lists used terms fit s sorted irreducible us l.
    let admissible = subst (AreAdmissible d) (sym used.same) used.admissible in
    meets_rule d lists used.rules s sorted (λ t fits. c.instances_step_at_parts.ensures d used.good used.completed _ admissible t fits s sorted) terms fit
    (λ x o. subst (λ (e : Equations). IsIrreducible d e (s x)) (sym used.same) (irreducible x o)) us
    (subst (λ (e : Equations). ListRewrites d e (map (apply s) (map plain terms)) us) (sym used.same) l)
