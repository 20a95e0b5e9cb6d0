-- Instances of rules are instances of the rules with renamed variables, and of rules that subsume them.
use Rattle.std.proofs.Common.{◌≡◌, ◌⊎◌, zero, suc, [], ◌∷◌, inl, inr, sym, ap, ◌∙◌, subst, arith}
use Rattle.std.specs.Prelude.{Any}
use Rattle.fvn_base.specs.Decided.{Decided}
use Rattle.fvn_base.proofs.Membership.{contains_none}
use Rattle.fvn_terms.specs.declared.plain.Var.{Var}
use Rattle.fvn_terms.specs.declared.declarations.Declarations.{Declarations}
use Rattle.fvn_terms.specs.Term.{var}
use Rattle.fvn_terms.specs.Signature.{IsTerm}
use Rattle.fvn_terms.specs.Substitution.{Substitution, apply, followed_by, Occurs}
use Rattle.fvn_terms.specs.Equality.{BEqual}
use Rattle.fvn_terms.proofs.Equal.{BEqual-apply, BEqual-sym, BEqual-trans}
use Rattle.fvn_terms.proofs.Substitutions.{apply-apply}
use Rattle.fvn_terms.proofs.WellSorted.{IsWellSorted-followed_by}
use Rattle.fvn_terms.specs.Sorts.{IsWellSorted}
use Rattle.fvn_terms.specs.Theory.{Equations}
use Rattle.fvn_forms.specs.Flat.{FlatTerm, plain}
use Rattle.fvn_forms.specs.Good.{IsGood}
use Rattle.fvn_flat.specs.Drawn.{Renaming, renamed}
use Rattle.fvn_flat.specs.Fits.{Fits}
use Rattle.fvn_flat.specs.Successors.{Narrowed, IsRenaming, renamed_form, OccursIn}
use Rattle.fvn_rewrite_rules.specs.declared.rule.Rule.{Rule}
use Rattle.fvn_rewrite_peaks.specs.Peaks.{IsInstanceOfForms}
use Rattle.fvn_lifting.proofs.Chosen.{occurs_or_not, either_or}
use Rattle.fvn_lifting.proofs.Renamed.{renaming_among, renaming_among_sorted, renaming_among_is, renamed_form_equal}
use Rattle.fvn_lifting.specs.Laws.{RenamedFormsHaveTheSameInstances}
use Rattle.fvn_critical_pairs.specs.Overlaps.{Subsumes}

module _ (d : Declarations) (equations : Equations) (good : IsGood d) (same : RenamedFormsHaveTheSameInstances) where
  -- two forms, and nothing besides
  abbrev both : FlatTerm → FlatTerm → Narrowed
  both l r = record { terms = l ∷ r ∷ []; values = var }

  pub renamed_instance : (l r left right : FlatTerm) → Fits d l → Fits d r → (by : Renaming) → IsRenaming (λ x. Occurs x (plain l) ⊎ Occurs x (plain r)) by →
      left ≡ renamed_form d by l → right ≡ renamed_form d by r → (s : Substitution) → IsWellSorted d s → IsInstanceOfForms d equations left right l r s
  renamed_instance l r left right l_fits r_fits by renames left_is right_is s sorted =
      let h = same d good [] (both l r) (both left right) (l_fits, (r_fits, tt)) record {
        by = by;
        renames = record { one_to_one = λ x y i j e. renames.one_to_one x y (on_side x i) (on_side y j) e; sorts = λ x i. renames.sorts x (on_side x i) };
        terms = ap (λ t. t ∷ right ∷ []) left_is ∙ ap (λ t. renamed_form d by l ∷ t ∷ []) right_is;
        values = λ x c. absurd (contains_none x c);
      } s sorted in record {
        by = h.0;
        well_sorted = h.1.well_sorted;
        left_is = BEqual-sym d h.1.terms.0;
        right_is = BEqual-sym d h.1.terms.1.0;
      }
    where
      in_list : (x : Var) → Any (λ t. Occurs x (plain t)) (l ∷ r ∷ []) → Occurs x (plain l) ⊎ Occurs x (plain r)
      in_list x (zero, t, n, e, o) = inl (subst (λ z. Occurs x (plain z)) (sym e) o)
      in_list x (suc zero, t, n, e, o) = inr (subst (λ z. Occurs x (plain z)) (sym e) o)
      in_list x (suc (suc k), t, n, e, o) = absurd (omega (arith, n))

      on_side : (x : Var) → OccursIn d [] (both l r) x → Occurs x (plain l) ⊎ Occurs x (plain r)
      on_side x (inl a) = in_list x a
      on_side x (inr w) = absurd (contains_none w.0 w.1)

  -- one renaming after another
  pub instance_again : (l r left right new_left new_right : FlatTerm) (s : Substitution) → (first : IsInstanceOfForms d equations left right l r s) → IsInstanceOfForms d equations new_left new_right left right first.by →
      IsInstanceOfForms d equations new_left new_right l r s
  instance_again l r left right new_left new_right s first second = record {
    by = second.by;
    well_sorted = second.well_sorted;
    left_is = BEqual-trans d second.left_is first.left_is;
    right_is = BEqual-trans d second.right_is first.right_is;
  }

  -- each instance of a rule is one of a rule that subsumes it
  pub special_instance : (general special : Rule) → Subsumes d general special → (s : Substitution) → IsWellSorted d s → IsInstanceOfForms d equations general.left general.right special.left special.right s
  special_instance general special h s sorted = record {
    by = followed_by h.by s;
    well_sorted = IsWellSorted-followed_by d h.by s h.well_sorted sorted;
    left_is = subst (λ t. BEqual d t (apply s (plain special.left))) (apply-apply h.by s (plain general.left)) (BEqual-apply d s sorted.0 h.left);
    right_is = subst (λ t. BEqual d t (apply s (plain special.right))) (apply-apply h.by s (plain general.right)) (BEqual-apply d s sorted.0 h.right);
  }

  -- each instance of a rule with renamed variables is one of the rule
  module _ (l r : FlatTerm) (l_kind : IsTerm d (plain l)) (r_kind : IsTerm d (plain r)) (by : Renaming) (renames : IsRenaming (λ x. Occurs x (plain l) ⊎ Occurs x (plain r)) by) where
    abbrev Among : Var → Type 0
    Among x = Occurs x (plain l) ⊎ Occurs x (plain r)

    among_or_not : (x : Var) → Decided (Among x)
    among_or_not x = either_or (occurs_or_not x (plain l)) (occurs_or_not x (plain r))

    abbrev names : Substitution
    names = renaming_among d Among among_or_not by renames

    pub instance_before : (new_left new_right : FlatTerm) → new_left ≡ renamed_form d by l → new_right ≡ renamed_form d by r → (s : Substitution) → IsWellSorted d s → IsInstanceOfForms d equations l r new_left new_right s
    instance_before new_left new_right left_is right_is s sorted = record {
      by = followed_by names s;
      well_sorted = IsWellSorted-followed_by d names s (renaming_among_sorted d Among among_or_not by renames) sorted;
      left_is = side l l_kind (λ x o. inl o) new_left left_is;
      right_is = side r r_kind (λ x o. inr o) new_right right_is;
    }
      where
        side : (t : FlatTerm) → IsTerm d (plain t) → ((x : Var) → Occurs x (plain t) → Among x) → (new : FlatTerm) → new ≡ renamed_form d by t → BEqual d (apply (followed_by names s) (plain t)) (apply s (plain new))
        side t h within new is =
            let same_term : apply s (renamed by (plain t)) ≡ apply (followed_by names s) (plain t) =
            ap (apply s) (sym (renaming_among_is d Among among_or_not by renames (plain t) within)) ∙ apply-apply names s (plain t) in
            subst (λ a. BEqual d a (apply s (plain new))) same_term
            (BEqual-apply d s sorted.0 (subst (λ w. BEqual d (renamed by (plain t)) (plain w)) (sym is) (renamed_form_equal d Among among_or_not by renames good t h.0 h.1 within)))
