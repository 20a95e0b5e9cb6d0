-- Steps of instances of flat forms, at their parts and within the values of their variables.
use Rattle.std.proofs.Common.{◌≡◌, ◌⊎◌, List, ◌∷◌, [], Some, refl, sym, ap, ◌∙◌, subst, inl, inr}
use Rattle.fvn_terms.specs.declared.plain.Var.{Var}
use Rattle.fvn_terms.specs.declared.plain.SortId.{SortId}
use Rattle.fvn_terms.specs.declared.declarations.Declarations.{Declarations}
use Rattle.fvn_terms.specs.Term.{Term, Terms}
use Rattle.fvn_terms.specs.Substitution.{Substitution, apply, apply_all, Occurs}
use Rattle.fvn_terms.specs.Signature.{kind, axioms, HasKind, HaveKinds}
use Rattle.fvn_terms.specs.Places.{AtOnePlace, AmongOnePlace, here, inside, first, later, stop}
use Rattle.fvn_terms.specs.Equality.{BEqual}
use Rattle.fvn_terms.specs.Sorts.{IsWellSorted}
use Rattle.fvn_terms.specs.Theory.{Equations}
use Rattle.fvn_terms.specs.Rewriting.{Rewrites, IsIrreducible}
use Rattle.fvn_terms.specs.Laws.{RewritingLaws}
use Rattle.fvn_terms.proofs.Equal.{HasKind-apply, BEqual-sym, BEqual-trans}
use Rattle.fvn_terms.proofs.Steps.{AtOnePlace-apply}
use Rattle.fvn_forms.specs.Flat.{FlatTerm, FlatTerms, fvar, fapp, funpack, plain}
use Rattle.fvn_forms.specs.Canon.{canon}
use Rattle.fvn_forms.specs.Good.{IsGood}
use Rattle.fvn_forms.proofs.Build.{is_constant}
use Rattle.fvn_forms.proofs.Eval.{canon_respects, eval_apply}
use Rattle.fvn_forms.proofs.KindsKept.{b_equal_keeps_kind}
use Rattle.fvn_forms.proofs.ToCanon.{to_canon, canon_of_kind, b_equal_iff_canon}
use Rattle.fvn_flat.specs.Fits.{Fits, AllFit}
use Rattle.fvn_flat.specs.Forms.{head_of}
use Rattle.fvn_flat.specs.FlatPlaces.{IsReplaced, IsReplacedAmong, here as here_form, inside as inside_form, first as first_form, later as later_form}
use Rattle.fvn_flat.proofs.Fitting.{args_fit}
use Rattle.fvn_rewrite_laws.specs.Agreement.{AgreeOn}
use Rattle.fvn_rewrite_laws.specs.Laws.{KindedLaws, AgreementLaws}
use Rattle.fvn_rewrite_laws.proofs.Choosing.{occurring_sort}
use Rattle.fvn_rewrite_coherence.specs.PlacedSteps.{IsRedex, StepsAtPlace}
use Rattle.fvn_rewrite_coherence.specs.InstanceSteps.{IsPlaceOf, StepsAtPart, StepsInValue}
use Rattle.fvn_rewrite_coherence.specs.Laws.{CoherenceLaws, InstanceLaws}
use Rattle.fvn_rewrite_coherence.proofs.Tight.{IsIdentityForm}
use Rattle.fvn_rewrite_coherence.proofs.TightSteps.{values, values_settled}
use Rattle.fvn_rewrite_coherence.proofs.Coherence.{plain_replaced}
use Rattle.fvn_rewrite_coherence.proofs.InstancePlaces.{IsPlace, IsPart, IsInValue, stands}

module _ (d : Declarations) (by : Substitution) where
  -- the instance of the second term has each kind that that of the first has
  abbrev KeepsKindUnder : Term → Term → Type 0
  KeepsKindUnder t u = (k : SortId) → HasKind d (apply by t) k → HasKind d (apply by u) k

  -- so also around one place
  mutual
    kept_at_place : {t u : Term} → AtOnePlace KeepsKindUnder t u → KeepsKindUnder t u
    kept_at_place (here r) k h = r k h
    kept_at_place (inside {f} p) k h = record { rank = h.rank; listed = h.listed; args = kept_among p _ h.args; result = h.result }

    kept_among : {ts us : Terms} → AmongOnePlace KeepsKindUnder ts us → (ks : List SortId) → HaveKinds d (apply_all by ts) ks → HaveKinds d (apply_all by us) ks
    kept_among (first p) [] h = absurd h
    kept_among (first p) (k ∷ ks) h = (kept_at_place p k h.0, h.1)
    kept_among (later p) [] h = absurd h
    kept_among (later p) (k ∷ ks) h = (h.0, kept_among p ks h.1)

module _ (d : Declarations) (good : IsGood d) (u v : FlatTerm) where
  -- what stands at a place of a form that fits, fits
  mutual
    place_fits : {t w : FlatTerm} → IsReplaced u v t w → Fits d t → Fits d u
    place_fits here_form h = h
    place_fits (inside_form {f} {joined} {ts} r) h = among_fits r (args_fit (fapp f joined ts) d good.fits h)

    among_fits : {ts us : FlatTerms} → IsReplacedAmong u v ts us → AllFit d (funpack ts) → Fits d u
    among_fits (first_form r) h = place_fits r h.0
    among_fits (later_form r) h = among_fits r h.1

module _ (d : Declarations) (good : IsGood d) (equations : Equations) (rewriting : RewritingLaws d equations) (kinded : KindedLaws d equations) (agreement : AgreementLaws d equations) (coherent : CoherenceLaws d equations) where
  module _ (t : FlatTerm) (fits : Fits d t) (s : Substitution) (sorted : IsWellSorted d s) where
    instance_of_kind : HasKind d (apply s (plain t)) fits.kinded.0
    instance_of_kind = HasKind-apply d s sorted.0 (plain t) fits.kinded.0 fits.kinded.1

    -- a place of the form, for terms
    place_of : (at value : FlatTerm) (u : Term) → Rewrites d equations (apply s (plain t)) u → Rewrites d equations (plain (canon d (apply s (plain at)))) (plain value) → IsPlace d (values d s) (values_settled d s) at t (canon d (plain value)) (canon d u) → IsPlaceOf d s at t (plain value) u
    place_of at value u whole step place = record { put = place.put; replaces = place.replaces; fits = place_fits d good at at (place.replaces at) fits; occurs = place.occurs; makes = makes } where
      makes : (given : FlatTerm) (by : Substitution) → AgreeOn d (plain t) by s → BEqual d (apply by (plain given)) (plain value) → BEqual d (apply by (plain (place.put given))) u
      makes given by agree is =
          let k = fits.kinded.0 in
          let same : canon d (apply by (plain (place.put given))) ≡ canon d u =
          eval_apply d fvar by (plain (place.put given))
          ∙ place.makes given (values d by) (values_settled d by) (λ x o. canon_respects d (agree x o)) (sym (eval_apply d fvar by (plain given)) ∙ canon_respects d is) in
          let kept : KeepsKindUnder d by (plain at) (plain given) = λ q h.
          let instance : HasKind d (apply s (plain at)) q = b_equal_keeps_kind d good.fits (agreement.terms by s (plain at) (λ x o. agree x (place.occurs x o))) q h in
          b_equal_keeps_kind d good.fits (BEqual-sym d is) q (kinded.steps (plain (canon d (apply s (plain at)))) (plain value) step q (canon_of_kind d good.fits (apply s (plain at)) q instance)) in
          let before : HasKind d (apply by (plain t)) k = b_equal_keeps_kind d good.fits (BEqual-sym d (agreement.terms by s (plain t) agree)) k instance_of_kind in
          let of_kind = kept_at_place d by (plain_replaced (KeepsKindUnder d by) at given kept (place.replaces given)) k before in
          (b_equal_iff_canon d good.fits (apply by (plain (place.put given))) u (k, of_kind) (k, kinded.steps (apply s (plain t)) u whole k instance_of_kind)).1 same

    -- a redex steps
    redex_steps : (o given : FlatTerm) → IsRedex d equations o (plain given) → Rewrites d equations (plain o) (plain given)
    redex_steps o given r = coherent.steps o (plain given) record { at = o; given = given; redex = r; replaced = given; replaces = here_form; makes = stop }

    -- so no identity is one
    no_redex : (o given : FlatTerm) → IsRedex d equations o (plain given) → IsIdentityForm d o → ⊥
    no_redex o given r i =
        let is = is_constant o i.1.0 i.1.2 in
        coherent.identities i.1.0 (i.0, i.1.1) (plain given) (subst (λ z. Rewrites d equations (plain z) (plain given)) is (redex_steps o given r))

    module _ (u : Term) (whole : Rewrites d equations (apply s (plain t)) u) (o given : FlatTerm) (redex : IsRedex d equations o (plain given)) (at value : FlatTerm) (place : IsPlace d (values d s) (values_settled d s) at t (canon d (plain value)) (canon d u)) where
      at_part : IsPart d (values d s) (values_settled d s) o given at value → StepsAtPart d equations s t u
      at_part i =
          let is : canon d (apply s (plain at)) ≡ o = eval_apply d fvar s (plain at) ∙ i.instance in
          let here_too : IsRedex d equations (canon d (apply s (plain at))) (plain value) = subst (λ z. IsRedex d equations z (plain value)) (sym is) (subst (λ z. IsRedex d equations o (plain z)) (sym i.same) redex) in
          let there = place_of at value u whole (redex_steps (canon d (apply s (plain at))) value here_too) place in
          let of_kind = there.fits.kinded in
          let equal : BEqual d (apply s (plain at)) (plain (canon d (apply s (plain at)))) = to_canon d good.fits (apply s (plain at)) of_kind.0 (HasKind-apply d s sorted.0 (plain at) of_kind.0 of_kind.1) in
          let head : Some here_too.operator ≡ Some i.operator = sym here_too.heads_form ∙ ap head_of is ∙ i.heads_instance in record {
            at = at;
            operator = i.operator;
            heads = i.heads;
            value = plain value;
            redex = here_too;
            same_operator = cc;
            matches = BEqual-trans d equal here_too.matches;
            place = there;
          }

      in_value : IsInValue d (values d s) (values_settled d s) o given at value → StepsInValue d equations s t u
      in_value i =
          let x = i.variable in
          let there = subst (λ z. IsPlace d (values d s) (values_settled d s) z t (canon d (plain value)) (canon d u)) i.is place in
          let step = coherent.steps (canon d (s x)) (plain value) record { at = o; given = given; redex = redex; replaced = value; replaces = i.replaces; makes = stop } in
          let of_kind = sorted.0 x (occurring_sort d x (plain t) fits.kinded.0 fits.kinded.1 (there.occurs x refl)) in record {
            variable = x;
            value = plain value;
            step = rewriting.modulo (plain (canon d (s x))) (s x) (plain value) (plain value) (BEqual-sym d (to_canon d good.fits (s x) (kind d x.sort) of_kind)) step stop;
            place = place_of (fvar x) value u whole step there;
          }

    placed : (u : Term) → Rewrites d equations (apply s (plain t)) u → StepsAtPart d equations s t u ⊎ StepsInValue d equations s t u
    placed u whole =
        let p = coherent.placed (apply s (plain t)) u (fits.kinded.0, instance_of_kind) whole in
        let w = stands d (values d s) (values_settled d s) p.at p.given (no_redex p.at p.given p.redex) t fits.flat p.replaced (subst (λ z. IsReplaced p.at p.given z p.replaced) (eval_apply d fvar s (plain t)) p.replaces) in
        let place = subst (IsPlace d (values d s) (values_settled d s) w.at t (canon d (plain w.value))) (canon_respects d p.makes) w.place in
        go p w.at w.value place w.how
      where
        go : (p : StepsAtPlace d equations (canon d (apply s (plain t))) u) (at value : FlatTerm) → IsPlace d (values d s) (values_settled d s) at t (canon d (plain value)) (canon d u) →
            IsPart d (values d s) (values_settled d s) p.at p.given at value ⊎ IsInValue d (values d s) (values_settled d s) p.at p.given at value → StepsAtPart d equations s t u ⊎ StepsInValue d equations s t u
        go p at value place (inl i) = inl (at_part u whole p.at p.given p.redex at value place i)
        go p at value place (inr i) = inr (in_value u whole p.at p.given p.redex at value place i)

    part_alone : ((x : Var) → Occurs x (plain t) → IsIrreducible d equations (s x)) → (u : Term) → StepsAtPart d equations s t u ⊎ StepsInValue d equations s t u → StepsAtPart d equations s t u
    part_alone irreducible u (inl p) = p
    part_alone irreducible u (inr v) = absurd (irreducible v.variable (v.place.occurs v.variable refl) v.value v.step)

    -- the steps of an instance stand at parts and in values
    pub instance_laws : InstanceLaws d equations t s
    instance_laws =
        record {
          placed = placed;
          at_part = λ irreducible u whole. part_alone irreducible u (placed u whole);
          steps = λ at given replaced p step.
              rewriting.inside (apply s (plain t)) (apply s (plain replaced))
              (AtOnePlace-apply {R = λ x y. Rewrites d equations (apply s x) (apply s y)} s (λ x y r. r) (plain_replaced (λ x y. Rewrites d equations (apply s x) (apply s y)) at given step p));
        }
