-- Both steps of an overlap are steps from one term, so that they join where the equations are confluent.
use Rattle.std.proofs.Common.{subst}
use Rattle.fvn_terms.specs.declared.plain.Var.{Var}
use Rattle.fvn_terms.specs.declared.declarations.Declarations.{Declarations}
use Rattle.fvn_terms.specs.Term.{Term, Terms}
use Rattle.fvn_terms.specs.Substitution.{Substitution, apply, apply_all}
use Rattle.fvn_terms.specs.Places.{AtOnePlace, AmongOnePlace, here, inside, first, later, stop}
use Rattle.fvn_terms.specs.Equality.{BEqual}
use Rattle.fvn_terms.specs.Theory.{Equations}
use Rattle.fvn_terms.specs.Rewriting.{Rewrites, IsConfluent}
use Rattle.fvn_terms.specs.Laws.{RewritingLaws}
use Rattle.fvn_terms.proofs.Equal.{HasKind-apply, BEqual-sym, BEqual-trans}
use Rattle.fvn_forms.specs.Flat.{FlatTerm, fvar, plain}
use Rattle.fvn_rewrite_laws.specs.Agreement.{AgreeOn}
use Rattle.fvn_rewrite_laws.specs.Laws.{AgreementLaws, RuleLaws}
use Rattle.fvn_rewrite_coherence.specs.InstanceSteps.{StepsAtPart}
use Rattle.fvn_rewrite_peaks.specs.Peaks.{OverlapsJoin}
use Rattle.fvn_rewrite_peaks.proofs.Joins.{plain_replaced}
use Rattle.fvn_rewrite_peaks.proofs.Changing.{new_of, new_is_new, with_value, value_there, value_agrees}

-- what is related at one place by its instances is related so in the instance
module _ (Q R : Term → Term → Type 0) (c : Substitution) (related : (v w : Term) → Q v w → R (apply c v) (apply c w)) where
  mutual
    at_instance : {t u : Term} → AtOnePlace Q t u → AtOnePlace R (apply c t) (apply c u)
    at_instance (here {t} {u} r) = here (related t u r)
    at_instance (inside p) = inside (among_instances p)

    among_instances : {ts us : Terms} → AmongOnePlace Q ts us → AmongOnePlace R (apply_all c ts) (apply_all c us)
    among_instances (first p) = first (at_instance p)
    among_instances (later p) = later (among_instances p)

module _ (d : Declarations) (equations : Equations) (laws : RewritingLaws d equations) (agreement : AgreementLaws d equations) (rules : RuleLaws d equations) where
  module _ (l : FlatTerm) (s : Substitution) (u : Term) (part : StepsAtPart d equations s l u) where
    -- a new variable for the part, with what the redex becomes
    abbrev z : Var
    z = new_of (plain l) (record { 0 = 0 })

    abbrev by : Substitution
    by = with_value s z part.value

    abbrev whole : FlatTerm
    whole = part.place.put (fvar z)

    agrees : AgreeOn d (plain l) by s
    agrees = value_agrees d s z part.value (plain l) (new_is_new (plain l) (record { 0 = 0 }))

    agrees_part : AgreeOn d (plain part.at) by s
    agrees_part x o = agrees x (part.place.occurs x o)

    at_new : BEqual d part.value (by z)
    at_new = subst (λ x. BEqual d x (by z)) (value_there s z part.value) stop

    redex_step : Rewrites d equations (apply by (plain part.at)) (by z)
    redex_step =
        let r = part.redex in
        laws.modulo (apply r.by (plain r.left)) (apply by (plain part.at)) (apply r.by (plain r.right)) (by z)
        (BEqual-sym d (BEqual-trans d (agreement.terms by s (plain part.at) agrees_part) part.matches))
        (rules.steps r.left r.right r.rule r.by r.well_sorted)
        (BEqual-trans d r.gives at_new)

    abbrev StepsThere : Term → Term → Type 0
    StepsThere v w = Rewrites d equations (apply by v) (apply by w)

    whole_step : Rewrites d equations (apply by (plain l)) (apply by (plain whole))
    whole_step =
        laws.inside (apply by (plain l)) (apply by (plain whole))
        (at_instance StepsThere (Rewrites d equations) by (λ v w r. r) (plain_replaced StepsThere part.at (fvar z) redex_step (part.place.replaces (fvar z))))

    pub overlap_step : Rewrites d equations (apply s (plain l)) u
    overlap_step =
        laws.modulo (apply by (plain l)) (apply s (plain l)) (apply by (plain whole)) u (agreement.terms by s (plain l) agrees) whole_step
        (part.place.makes (fvar z) by agrees (BEqual-sym d at_new))

  pub overlaps_join : IsConfluent d equations → OverlapsJoin d equations
  overlaps_join confluent l r rule s sorted u part =
      let k = rules.kinds l r rule in
      confluent (apply s (plain l)) (apply s (plain r)) u 1 1 (k.kind, HasKind-apply d s sorted.0 (plain l) k.kind k.left)
      (apply s (plain r), (rules.steps l r rule s sorted, stop)) (u, (overlap_step l s u part, stop))
