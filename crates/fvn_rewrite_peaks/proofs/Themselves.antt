-- Rules stand for themselves.
use Rattle.std.proofs.Common.{inl, inr, sym, subst}
use Rattle.fvn_terms.specs.declared.declarations.Declarations.{Declarations}
use Rattle.fvn_terms.specs.Term.{Term, var}
use Rattle.fvn_terms.specs.Substitution.{apply}
use Rattle.fvn_terms.specs.Places.{stop}
use Rattle.fvn_terms.specs.Equality.{two}
use Rattle.fvn_terms.specs.Theory.{Equations}
use Rattle.fvn_terms.specs.Rewriting.{BringsNoVariable}
use Rattle.fvn_forms.specs.Flat.{FlatTerm, plain}
use Rattle.fvn_forms.specs.Settled.{Settled}
use Rattle.fvn_forms.proofs.Eval.{canon_settled}
use Rattle.fvn_flat.specs.Fits.{Fits}
use Rattle.fvn_flat.specs.Rules.{IsRuleFrom, IsRuleOf}
use Rattle.fvn_rewrite_laws.specs.Admissible.{AreAdmissible}
use Rattle.fvn_rewrite_laws.specs.Laws.{RuleLaws}
use Rattle.fvn_rewrite_peaks.specs.Peaks.{OverlapsJoin, StandForRule, StandInsJoin}

module _ (d : Declarations) (equations : Equations) (admissible : AreAdmissible d equations) (rules : RuleLaws d equations) where
  left_settled : (equation : Term × Term) (l r : FlatTerm) → IsRuleFrom d equation l r → Settled d l
  left_settled equation l r (inl i) = subst (Settled d) (sym i.left) (canon_settled d (apply i.by equation.0))
  left_settled equation l r (inr e) = subst (Settled d) (sym e.left) (canon_settled d (two e.operator (plain e.inner_left) (var e.beside)))

  left_fits : (l r : FlatTerm) → IsRuleOf d equations l r → Fits d l
  left_fits l r rule = record { flat = left_settled rule.0 l r rule.2; kinded = (let k = rules.kinds l r rule in (k.kind, k.left)) }

  brings_none : BringsNoVariable equations
  brings_none left right i x o = (admissible (left, right) i).kinded.brings_none x o

  stands : (l r : FlatTerm) → IsRuleOf d equations l r → StandForRule d equations l r l r
  stands l r rule = record {
    fits = left_fits l r rule;
    brings_none = rules.variables brings_none l r rule;
    steps = rules.steps l r rule;
    instances = λ s sorted. record { by = s; well_sorted = sorted; left_is = stop; right_is = stop };
  }

  pub stand_for_themselves : OverlapsJoin d equations → StandInsJoin d equations
  stand_for_themselves overlaps l r rule = (l, r, stands l r rule, overlaps l r rule)
