-- The two forms to which an overlap leads under a unifier.
use Rattle.std.proofs.Common.{◌≡◌, inl, inr, sym, ap, ◌∙◌, subst, refl}
use Rattle.fvn_terms.specs.declared.plain.SortId.{SortId}
use Rattle.fvn_terms.specs.declared.declarations.Declarations.{Declarations}
use Rattle.fvn_terms.specs.Term.{Term}
use Rattle.fvn_terms.specs.Signature.{HasKind, IsTerm}
use Rattle.fvn_terms.specs.Substitution.{Substitution, apply}
use Rattle.fvn_terms.specs.Equality.{BEqual}
use Rattle.fvn_terms.specs.Unifiers.{Problem}
use Rattle.fvn_terms.proofs.Equal.{HasKind-apply, BEqual-sym}
use Rattle.fvn_forms.specs.Flat.{FlatTerm, fvar, plain}
use Rattle.fvn_forms.specs.Canon.{eval, canon, inst}
use Rattle.fvn_forms.specs.Settled.{SettledValues}
use Rattle.fvn_forms.specs.Good.{IsGood}
use Rattle.fvn_forms.proofs.Eval.{eval_apply, canon_plain}
use Rattle.fvn_forms.proofs.Instances.{eval_canon}
use Rattle.fvn_forms.proofs.ToCanon.{to_canon}
use Rattle.fvn_signature.specs.Queries.{IsCompleted}
use Rattle.fvn_flat.specs.Bindings.{Bindings, value}
use Rattle.fvn_flat.specs.Fits.{Fits}
use Rattle.fvn_flat.specs.Solving.{substitution}
use Rattle.fvn_flat.proofs.Instances.{inst_fits}
use Rattle.fvn_rewrite_laws.specs.Laws.{RuleLaws, RulesAreLawful}
use Rattle.fvn_rewrite.specs.Usable.{Rewriting, AreUsable, equations_by}
use Rattle.fvn_places.specs.Putting.{IsPut, PutAs}
use Rattle.fvn_lifting.specs.Laws.{AreUsed}
use Rattle.fvn_critical_pairs.specs.Overlaps.{Overlap, inner_result}
use Rattle.fvn_critical_pairs.proofs.RenewedRules.{new_left_fits, new_right_fits}
use Rattle.fvn_critical.specs.declared.pairing.Meeting.{Meeting}
use Rattle.fvn_critical.specs.Faults.{IsCriticalForm}
use Rattle.fvn_critical.specs.inner.Testing.{overlap_in, IsTestable, IsDrawnFor}

-- instances by flat values
instance_is : (d : Declarations) (s : Bindings) → SettledValues d (value s) → (t : FlatTerm) → inst d (value s) t ≡ canon d (apply (substitution s) (plain t))
instance_is d s settled t = sym (eval_apply d fvar (substitution s) (plain t) ∙ (λ i. eval d (λ x. canon_plain d (value s x) (settled x) i) (plain t)))

pub used_by : (r : Rewriting) → IsGood r.signature → IsCompleted r.signature → AreUsable r.signature r.rules → AreUsed r.signature (equations_by r) r.rules
used_by r good completed usable = record { good = good; completed = completed; same = refl; admissible = usable.admissible; rules = usable.rules }

-- what a call over the signature gives
pub applied : (r : Rewriting) (s : Bindings) (d : Declarations) → d ≡ r.signature → (t form : FlatTerm) → form ≡ inst d (value s) t → form ≡ inst r.signature (value s) t
applied r s d same t form e = e ∙ ap (λ x. inst x (value s) t) same

-- what is known where an overlap is tested
pub record IsKnown (r : Rewriting) (m : Meeting) : Type 0 where
  pub good : IsGood r.signature
  pub completed : IsCompleted r.signature
  pub usable : AreUsable r.signature r.rules
  pub lawful : RuleLaws r.signature (equations_by r)
  pub testable : IsTestable r m

pub known : (r : Rewriting) (m : Meeting) → IsGood r.signature → IsCompleted r.signature → AreUsable r.signature r.rules → RulesAreLawful → IsTestable r m → IsKnown r m
known r m good completed usable laws testable = record {
  good = good;
  completed = completed;
  usable = usable;
  lawful = laws r.signature good completed (equations_by r) (λ e i. (usable.admissible e i).kinded.kinds);
  testable = testable;
}

module _ (r : Rewriting) (m : Meeting) (k : IsKnown r m) where
  abbrev o : Overlap
  o = overlap_in m

  abbrev d : Declarations
  d = r.signature

  abbrev used : AreUsed d (equations_by r) r.rules
  used = used_by r k.good k.completed k.usable

  pub outer_left_fits : Fits d o.outer.left
  outer_left_fits = new_left_fits d r.rules used k.lawful m.next k.testable.rule o.outer k.testable.given k.testable.renewed

  pub outer_right_fits : Fits d o.outer.right
  outer_right_fits = new_right_fits d r.rules used k.lawful m.next k.testable.rule o.outer k.testable.given k.testable.renewed

  module _ (drawn : Problem → Substitution → Type 0) (s : Bindings) (u : IsDrawnFor r drawn o s) where
    abbrev pub by : Substitution
    by = substitution s

    -- what the outer rule makes of its left side
    pub first_is : inst d (value s) o.outer.right ≡ canon d (apply by (plain o.outer.right))
    first_is = instance_is d s u.fits.settled o.outer.right

    pub first_told : IsCriticalForm r drawn (inst d (value s) o.outer.right)
    first_told = record { next = m.next; overlap = o; overlaps = k.testable; unifier = s; unifies = u.unifies; is_drawn = u.is_drawn; is = inl first_is }

    pub first_fits : Fits d (inst d (value s) o.outer.right)
    first_fits = inst_fits d (value s) k.good u.fits o.outer.right outer_right_fits

    form_equal : (t : Term) (i : SortId) → HasKind d t i → (form : FlatTerm) → form ≡ canon d (apply by t) → BEqual d (plain form) (apply by t)
    form_equal t i h form e = BEqual-sym d (subst (λ w. BEqual d (apply by t) (plain w)) (sym e) (to_canon d k.good.fits (apply by t) i (HasKind-apply d by u.unifies.0.0 t i h)))

    pub first_equal : BEqual d (plain (inst d (value s) o.outer.right)) (apply by (plain o.outer.right))
    first_equal = let i = outer_right_fits.kinded in form_equal (plain o.outer.right) i.0 i.1 (inst d (value s) o.outer.right) first_is

    pub start_kinded : IsTerm d (apply by (plain o.outer.left))
    start_kinded = let i = outer_left_fits.kinded in (i.0, HasKind-apply d by u.unifies.0.0 (plain o.outer.left) i.0 i.1)

    -- what the inner rule makes of it
    module _ (whole : FlatTerm) (put : PutAs d o.path o.outer.left o.inner.right whole) where
      abbrev p : IsPut d o.path o.at o.outer.left o.inner.right whole
      p = put o.at k.testable.overlaps.leads

      whole_is : whole ≡ canon d (plain (inner_result o))
      whole_is = p.is ∙ ap (λ w. canon d (plain w)) p.along

      pub whole_fits : Fits d whole
      whole_fits = p.fits

      pub second_is : inst d (value s) whole ≡ canon d (apply by (plain (inner_result o)))
      second_is = ap (inst d (value s)) whole_is ∙ sym (eval_canon d (value s) u.fits.settled (plain (inner_result o))) ∙ instance_is d s u.fits.settled (inner_result o)

      pub second_told : IsCriticalForm r drawn (inst d (value s) whole)
      second_told = record { next = m.next; overlap = o; overlaps = k.testable; unifier = s; unifies = u.unifies; is_drawn = u.is_drawn; is = inr second_is }

      pub second_fits : Fits d (inst d (value s) whole)
      second_fits = inst_fits d (value s) k.good u.fits whole whole_fits

      pub second_equal : BEqual d (plain (inst d (value s) whole)) (apply by (plain (inner_result o)))
      second_equal =
          let i = subst (λ w. IsTerm d (plain w)) p.along p.kinded in
          form_equal (plain (inner_result o)) i.0 i.1 (inst d (value s) whole) second_is
