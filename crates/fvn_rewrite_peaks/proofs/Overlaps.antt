-- Two steps from one term: at places apart, within the value of a variable, or at an overlap of rules.
use Rattle.std.proofs.Common.{◌≡◌, ◌⊎◌, inl, inr, ℕ, ◌+◌, refl, sym, ◌∙◌, subst}
use Rattle.fvn_terms.specs.declared.plain.Var.{Var}
use Rattle.fvn_terms.specs.declared.plain.SortId.{SortId}
use Rattle.fvn_terms.specs.declared.declarations.Declarations.{Declarations}
use Rattle.fvn_terms.specs.Term.{Term}
use Rattle.fvn_terms.specs.Substitution.{Substitution, apply, Occurs}
use Rattle.fvn_terms.specs.Signature.{kind, IsSort, HasKind, IsTerm}
use Rattle.fvn_terms.specs.Places.{stop}
use Rattle.fvn_terms.specs.Equality.{BEqual}
use Rattle.fvn_terms.specs.Sorts.{HasSort, IsWellSorted}
use Rattle.fvn_terms.specs.Theory.{Equations}
use Rattle.fvn_terms.specs.Rewriting.{Rewrites, TermSequence, AreJoinable}
use Rattle.fvn_terms.specs.Laws.{RewritingLaws}
use Rattle.fvn_terms.proofs.Equal.{BEqual-sym, BEqual-trans}
use Rattle.fvn_forms.specs.Flat.{FlatTerm, fvar, plain}
use Rattle.fvn_flat.specs.Fits.{Fits}
use Rattle.fvn_flat.specs.FlatPlaces.{IsReplaced}
use Rattle.fvn_rewrite_laws.specs.Agreement.{AgreeOn}
use Rattle.fvn_rewrite_laws.specs.Laws.{SequenceLaws, AgreementLaws, KindedLaws}
use Rattle.fvn_rewrite_coherence.specs.PlacedSteps.{IsRedex}
use Rattle.fvn_rewrite_coherence.specs.InstanceSteps.{StepsAtPart, StepsInValue}
use Rattle.fvn_rewrite_coherence.specs.Laws.{CoherenceLaws, InstanceLaws}
use Rattle.fvn_rewrite_peaks.specs.Peaks.{AreTwoPlaces, apart, within_first, within_second, StepsJoin, JoinsAtParts, IsInstanceOfForms, StandForRule, StandInsJoin}
use Rattle.fvn_rewrite_peaks.proofs.TwoPlaces.{two_places}
use Rattle.fvn_rewrite_peaks.proofs.Joins.{plain_replaced, joins_modulo, joins_back, joins_replaced}
use Rattle.fvn_rewrite_peaks.proofs.Runs.{instance_runs}
use Rattle.fvn_rewrite_peaks.proofs.Changing.{new_of, new_is_new, with_value, value_there, value_elsewhere, one_instance, value_sorted, value_agrees, value_leads}

module _ (d : Declarations) (equations : Equations) (laws : RewritingLaws d equations) (sequences : SequenceLaws d equations) (kinded : KindedLaws d equations) where
  module _ (agreement : AgreementLaws d equations)
      (keep : (n : ℕ) (t u : Term) → IsTerm d t → TermSequence d equations n t u → (q : SortId) → HasSort d t q → HasSort d u q) where
    -- the value of a variable y steps to v at one of the places of y; then at all of them, and the rule follows
    module _ (l r : FlatTerm) (brings : (x : Var) → Occurs x (plain r) → Occurs x (plain l))
        (fires : (c : Substitution) → IsWellSorted d c → Rewrites d equations (apply c (plain l)) (apply c (plain r)))
        (s : Substitution) (sorted : IsWellSorted d s) (u : Term) (step : StepsInValue d equations s l u) where
      abbrev y : Var
      y = step.variable

      abbrev v : Term
      v = step.value

      -- a new variable for that place, and the value that y has elsewhere
      abbrev z : Var
      z = new_of (plain l) y.sort

      abbrev by : Substitution
      by = with_value s z v

      -- and the substitution under which y has the new value too
      abbrev c : Substitution
      c = with_value by y v

      abbrev whole : FlatTerm
      whole = step.place.put (fvar z)

      not_new : y ≡ z → ⊥
      not_new e = new_is_new (plain l) y.sort (subst (λ x. Occurs x (plain l)) e (step.place.occurs y refl))

      is_sort : IsSort d y.sort
      is_sort = (step.place.fits.kinded.1).0

      of_kind : IsSort d y.sort → HasKind d v (kind d y.sort)
      of_kind i = kinded.steps (s y) v step.step (kind d y.sort) (sorted.0 y i)

      of_sort : HasSort d v y.sort
      of_sort = keep 1 (s y) v (kind d y.sort, sorted.0 y is_sort) (v, (step.step, stop)) y.sort (sorted.1 y)

      c_sorted : IsWellSorted d c
      c_sorted = value_sorted d by y v (value_sorted d s z v sorted of_kind of_sort) of_kind of_sort

      agrees : AgreeOn d (plain l) by s
      agrees = value_agrees d s z v (plain l) (new_is_new (plain l) y.sort)

      agrees_right : AgreeOn d (plain r) by s
      agrees_right x o = agrees x (brings x o)

      at_new : by z ≡ v
      at_new = value_there s z v

      made : BEqual d (apply by (plain whole)) u
      made = step.place.makes (fvar z) by agrees (subst (λ x. BEqual d (by z) x) at_new stop)

      by_step : Rewrites d equations (by y) v
      by_step = subst (λ x. Rewrites d equations x v) (sym (value_elsewhere s z v y not_new)) step.step

      run : (t : Term) → (k : ℕ) × TermSequence d equations k (apply by t) (apply c t)
      run = instance_runs d equations laws sequences by c (value_leads d equations by y v by_step)

      same_values : c y ≡ c z
      same_values = value_there by y v ∙ sym at_new ∙ sym (value_elsewhere by y v z (λ e. not_new (sym e)))

      abbrev IsOneThere : Term → Term → Type 0
      IsOneThere t w = apply c t ≡ apply c w

      same_instance : apply c (plain l) ≡ apply c (plain whole)
      same_instance = one_instance IsOneThere c (λ t w e. e) (plain_replaced IsOneThere (fvar y) (fvar z) same_values (step.place.replaces (fvar z)))

      rule_step : Rewrites d equations (apply c (plain whole)) (apply c (plain r))
      rule_step = subst (λ x. Rewrites d equations x (apply c (plain r))) same_instance (fires c c_sorted)

      pub value_joins : AreJoinable d equations (apply s (plain r)) u
      value_joins =
          let right = run (plain whole) in
          let left = run (plain r) in
          record {
            left = apply c (plain r);
            right = apply c (plain r);
            left_steps = left.0;
            right_steps = right.0 + 1;
            left_reached = sequences.before left.0 (apply by (plain r)) (apply s (plain r)) (apply c (plain r)) (agreement.terms by s (plain r) agrees_right) left.1;
            right_reached =
                laws.joined right.0 1 u (apply c (plain whole)) (apply c (plain r))
                (sequences.before right.0 (apply by (plain whole)) u (apply c (plain whole)) made right.1)
                (apply c (plain r), (rule_step, stop));
            equal = stop;
          }

    module _ (coherence : CoherenceLaws d equations) (instances : (t : FlatTerm) → Fits d t → (s : Substitution) → IsWellSorted d s → InstanceLaws d equations t s)
        (joins : StandInsJoin d equations) where
      -- a step at a place of a redex, and the step of the redex
      module _ (a g : FlatTerm) (redex : IsRedex d equations a (plain g)) (b h k : FlatTerm) (other : IsRedex d equations b (plain h)) (p : IsReplaced b h a k) where
        stands : (left : FlatTerm) × (right : FlatTerm) × StandForRule d equations left right redex.left redex.right × JoinsAtParts d equations left right
        stands = joins redex.left redex.right redex.rule

        stood : IsInstanceOfForms d equations stands.0 stands.1 redex.left redex.right redex.by
        stood = stands.2.instances redex.by redex.well_sorted

        at_form : Rewrites d equations (plain a) (plain k)
        at_form = coherence.steps a (plain k) (record { at = b; given = h; redex = other; replaced = k; replaces = p; makes = stop })

        at_left : Rewrites d equations (apply stood.by (plain stands.0)) (plain k)
        at_left = laws.modulo (plain a) (apply stood.by (plain stands.0)) (plain k) (plain k) (BEqual-trans d redex.matches (BEqual-sym d stood.left_is)) at_form stop

        from : AreJoinable d equations (apply stood.by (plain stands.1)) (plain k) → AreJoinable d equations (plain g) (plain k)
        from = joins_modulo d equations sequences (apply stood.by (plain stands.1)) (plain k) (plain g) (plain k) (BEqual-trans d stood.right_is redex.gives) stop

        inner : AreJoinable d equations (plain g) (plain k)
        inner = go ((instances stands.0 stands.2.fits stood.by stood.well_sorted).placed (plain k) at_left) where
          go : StepsAtPart d equations stood.by stands.0 (plain k) ⊎ StepsInValue d equations stood.by stands.0 (plain k) → AreJoinable d equations (plain g) (plain k)
          go (inl part) = from (stands.3 stood.by stood.well_sorted (plain k) part)
          go (inr value) = from (value_joins stands.0 stands.1 stands.2.brings_none stands.2.steps stood.by stood.well_sorted (plain k) value)

      places_join : (a g b h t w : FlatTerm) → IsRedex d equations a (plain g) → IsRedex d equations b (plain h) → AreTwoPlaces a g b h t w → AreJoinable d equations (plain t) (plain w)
      places_join a g b h t w first second (apart {w = x} p q) = record {
        left = plain x;
        right = plain x;
        left_steps = 1;
        right_steps = 1;
        left_reached = (plain x, (coherence.steps t (plain x) (record { at = b; given = h; redex = second; replaced = x; replaces = p; makes = stop }), stop));
        right_reached = (plain x, (coherence.steps w (plain x) (record { at = a; given = g; redex = first; replaced = x; replaces = q; makes = stop }), stop));
        equal = stop;
      }
      places_join a g b h t w first second (within_first {k} p q) = joins_replaced d equations sequences g k t w q (inner a g first b h k second p)
      places_join a g b h t w first second (within_second {k} p q) =
          joins_replaced d equations sequences k h t w q (joins_back d equations sequences (plain h) (plain k) (inner b h second a g k first p))

      pub steps_join : StepsJoin d equations
      steps_join t u v term first second =
          let p = coherence.placed t u term first in
          let q = coherence.placed t v term second in
          joins_modulo d equations sequences (plain p.replaced) (plain q.replaced) u v p.makes q.makes
          (places_join p.at p.given q.at q.given p.replaced q.replaced p.redex q.redex (two_places p.replaces q.replaces))
