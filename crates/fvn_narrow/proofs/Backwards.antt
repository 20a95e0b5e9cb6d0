-- What is found from a variant with new variables is found from the variant itself.
use Rattle.std.proofs.Common.{◌≡◌, ℕ, List, [], ◌∷◌, map, length, refl, sym, ap, ◌∙◌, subst, inl, inr}
use Rattle.std.specs.Prelude.{◌⊎◌, Contains}
use Rattle.std.proofs.lemmas.List.{length-map}
use Rattle.fvn_terms.specs.declared.plain.Var.{Var}
use Rattle.fvn_terms.specs.declared.declarations.Declarations.{Declarations}
use Rattle.fvn_terms.specs.Theory.{Equations}
use Rattle.fvn_terms.specs.Substitution.{Substitution, apply}
use Rattle.fvn_terms.specs.Equality.{BEqual}
use Rattle.fvn_terms.specs.Unifiers.{Problem}
use Rattle.fvn_terms.proofs.Substitutions.{apply-var}
use Rattle.fvn_terms.proofs.Equal.{BEqual-refl}
use Rattle.fvn_forms.specs.Flat.{FlatTerm, plain}
use Rattle.fvn_forms.specs.Canon.{canon}
use Rattle.fvn_forms.proofs.Eval.{canon_settled}
use Rattle.fvn_flat.specs.declared.solver.Pairs.{Pairs}
use Rattle.fvn_flat.specs.declared.solver.SizeCause.TheVariants.{Problem as OfProblem, Binding, Term as OfTerm}
use Rattle.fvn_flat.specs.Successors.{Narrowed, renamed_form, OccursIn, IsRenamed, IsStepFrom, IsDrawnSuccessor}
use Rattle.fvn_cover.specs.declared.variant.Variant.{Variant}
use Rattle.fvn_rewrite.specs.Usable.{Rewriting, equations_by}
use Rattle.fvn_exploring.specs.Setting.{Setting}
use Rattle.fvn_exploring.specs.Children.{narrowed, IsChild}
use Rattle.fvn_exploring.specs.declared.ends.ExpandEnd.{ExpandEnd}
use Rattle.fvn_exploring.specs.declared.ends.ExpandEnd.TheVariants.{Whole, Steps, Size, Basis, Unifiers}
use Rattle.fvn_exploring.specs.Causes.{IsRuleProblem, IsNarrowingProblem, IsOfSuccessor}
use Rattle.fvn_narrow_children.specs.Starts.{IsStartOf}
use Rattle.fvn_narrow.specs.Settings.{narrowing_setting}
use Rattle.fvn_narrow.specs.inner.Turns.{IsStepChild, IsOfStep, EndsAs}
use Rattle.fvn_narrow.proofs.Steps.{same_form, same_names}

module _ (r : Rewriting) (unifiers next : ℕ) (v start : Variant) (o : IsStartOf r.signature next v start) where
  abbrev d : Declarations
  d = r.signature

  abbrev equations : Equations
  equations = equations_by r

  abbrev g : Setting
  g = narrowing_setting r unifiers

  module _ (drawn : Problem → Substitution → Type 0) where
    pub renamed_start : IsRenamed d v.vars (narrowed v) (narrowed start)
    renamed_start = record { by = o.by; renames = o.renames; terms = o.terms; values = o.values }

    same_after : (w : Narrowed) → IsStepFrom d start.vars equations drawn (narrowed start) w → IsRenamed d v.vars w w
    same_after w s = record {
      by = λ x. x;
      renames = same_names d (OccursIn d v.vars w);
      terms = subst (λ ts. ts ≡ map (renamed_form d (λ x. x)) ts) (sym s.terms) (sym (stays _));
      values = λ x c. subst (BEqual d (w.values x)) (sym (apply-var (w.values x))) (BEqual-refl d (w.values x));
    }
      where
        stays : (l : List FlatTerm) → map (renamed_form d (λ x. x)) (map (λ t. canon d (apply s.unifier (plain t))) l) ≡ map (λ t. canon d (apply s.unifier (plain t))) l
        stays [] = refl
        stays (t ∷ l) =
            let one = canon d (apply s.unifier (plain t)) in
            ap (λ u. u ∷ map (renamed_form d (λ x. x)) (map (λ t. canon d (apply s.unifier (plain t))) l)) (same_form d one (canon_settled d (apply s.unifier (plain t)))) ∙ ap (λ m. one ∷ m) (stays l)

    drawn_back : (w : Narrowed) → IsStepFrom d start.vars equations drawn (narrowed start) w → IsDrawnSuccessor d v.vars equations drawn (narrowed v) w
    drawn_back w s = record {
      from = narrowed start;
      to = w;
      renamed_before = renamed_start;
      step = subst (λ vs. IsStepFrom d vs equations drawn (narrowed start) w) o.vars s;
      renamed_after = same_after w s;
    }

    pub child_back : (c : Variant) → IsStepChild g drawn start c → IsChild g drawn v c
    child_back c h = record {
      successor = h.successor;
      drawn_from = drawn_back h.successor h.step;
      steps = h.steps;
      reached = h.reached;
      same = λ x i. h.same x (subst (λ vs. Contains vs x) (sym o.vars) i);
      alike = record { vars = sym o.vars ∙ h.alike.vars; terms = sym (length-map v.terms (renamed_form d o.by)) ∙ ap length (sym o.terms) ∙ h.alike.terms };
      member = h.member;
    }

    pub told_back : (t : FlatTerm) → IsOfStep g drawn start t → IsOfSuccessor g drawn v t
    told_back t h = record { successor = h.successor; drawn_from = drawn_back h.successor h.step; is = is h.is }
      where
        is : Contains h.successor.terms t ⊎ ((x : Var) × Contains start.vars x × (t ≡ canon d (h.successor.values x))) → Contains h.successor.terms t ⊎ ((x : Var) × Contains v.vars x × (t ≡ canon d (h.successor.values x)))
        is (inl c) = inl c
        is (inr w) = inr (w.0, subst (λ vs. Contains vs w.0) o.vars w.1, w.2)

    pub posed_back : (given : Pairs) → IsRuleProblem g start.terms given → IsNarrowingProblem g v given
    posed_back given p = record { from = narrowed start; renamed_before = renamed_start; problem = p }

    pub cause_back : (end : ExpandEnd) → EndsAs g drawn (IsRuleProblem g start.terms) (IsOfStep g drawn start) end → EndsAs g drawn (IsNarrowingProblem g v) (IsOfSuccessor g drawn v) end
    cause_back Whole h = tt
    cause_back (Steps from to) h = record { told = told_back from h.told; fits = h.fits; reached = h.reached; reducible = h.reducible }
    cause_back (Size (OfProblem given)) h = (posed_back given h.0, h.1)
    cause_back (Size (Binding list)) h = record { given = h.given; posed = posed_back h.given h.posed; large = h.large }
    cause_back (Size (OfTerm end)) h = record { start = h.start; told = told_back h.start h.told; steps = h.steps; reached = h.reached; large = h.large }
    cause_back (Basis f system) h = record { given = h.given; posed = posed_back h.given h.posed; basis = h.basis }
    cause_back (Unifiers given list) h = record { posed = posed_back given h.posed; many = h.many; unifiers = h.unifiers; are_drawn = h.are_drawn; apart = h.apart }
