-- Substitutions that send variables to identities.
use Rattle.std.proofs.Common.{◌≡◌, Bool, true, false, [], ◌∷◌, ◌++◌, Option, Some, None, refl, sym, subst}
use Rattle.std.specs.Prelude.{if◌then◌else◌, is_some}
use Rattle.std.specs.List.{Contains}
use Rattle.std.proofs.lemmas.Bool.{true≢false}
use Rattle.fvn_terms.specs.declared.plain.Var.{Var}
use Rattle.fvn_terms.specs.declared.plain.OpId.{OpId}
use Rattle.fvn_terms.specs.declared.declarations.Declarations.{Declarations}
use Rattle.fvn_terms.specs.Substitution.{same_var, apply}
use Rattle.fvn_terms.specs.Signature.{kind, HasKind}
use Rattle.fvn_terms.specs.Equality.{constant, BEqual}
use Rattle.fvn_terms.specs.Sorts.{HasSort}
use Rattle.fvn_forms.specs.Flat.{FlatTerm, fconstant, plain}
use Rattle.fvn_forms.specs.Good.{IsGood}
use Rattle.fvn_forms.proofs.Sums.{constant_settled}
use Rattle.fvn_signature.specs.Queries.{IsCompleted}
use Rattle.fvn_flat.specs.Bindings.{Bindings, form_or, bound, BindingsFit, IsInstanceBy}
use Rattle.fvn_flat.specs.Solving.{substitution}
use Rattle.fvn_flat.proofs.Binding.{same_var_is, or_else, bound-append}
use Rattle.fvn_flat.proofs.Composing.{empty_fits, bind_fits}
use Rattle.fvn_rewrite_laws.specs.Choices.{identities_below}
use Rattle.fvn_rewrite_laws.proofs.Choosing.{identity_below, made_identity}
use Rattle.fvn_rewrite_rules.specs.declared.rule.Rule.{Rule}
use Rattle.fvn_rewrite_rules.specs.Given.{HasInstance}
use Rattle.fvn_rewrite_rules.specs.inner.Making.{AreSorted}
use Rattle.fvn_rewrite_rules.proofs.General.{renaming_sorted}

-- what has no pair
pub unbound : (o : Option FlatTerm) → is_some o ≡ false → o ≡ None
unbound None e = refl
unbound (Some t) e = absurd (true≢false e)

module _ (d : Declarations) where
  -- no pairs
  pub none_sorted : AreSorted d []
  none_sorted = record { fit = empty_fits d; sorted = renaming_sorted d (λ x. x) (λ x. refl) }

  -- one more, which sends a variable to an identity at or below its sort
  pub one_more_sorted : IsGood d → IsCompleted d → (s : Bindings) → AreSorted d s → (x : Var) (e : OpId) → Contains (identities_below d x.sort) e → AreSorted d (s ++ (x, fconstant e) ∷ [])
  one_more_sorted good completed s h x e c = record { fit = fits; sorted = (fits.keeps_kinds, of_sorts) } where
    of_kind : HasKind d (constant e) (kind d x.sort)
    of_kind = let w = identity_below d good completed e x.sort c in (made_identity d good completed x e w.0 w.1).of_kind

    of_sort : HasSort d (constant e) x.sort
    of_sort = let w = identity_below d good completed e x.sort c in (made_identity d good completed x e w.0 w.1).of_sort

    fits : BindingsFit d (s ++ (x, fconstant e) ∷ [])
    fits = bind_fits d s x (fconstant e) h.fit (constant_settled d e e) (λ i. of_kind)

    of_sorts : (y : Var) → HasSort d (substitution (s ++ (x, fconstant e) ∷ []) y) y.sort
    of_sorts y = subst (λ o. HasSort d (plain (form_or y o)) y.sort) (sym (bound-append s ((x, fconstant e) ∷ []) y)) (go (bound s y) (same_var x y) refl (h.sorted.1 y)) where
      go : (o : Option FlatTerm) (b : Bool) → same_var x y ≡ b → HasSort d (plain (form_or y o)) y.sort → HasSort d (plain (form_or y (or_else o (if b then Some (fconstant e) else None)))) y.sort
      go (Some u) b p g = g
      go None true p g = subst (λ (z : Var). HasSort d (constant e) z.sort) (same_var_is x y p) of_sort
      go None false p g = g

  -- what they make of the left side of a rule is an instance
  pub made_instance : (rule other : Rule) (s : Bindings) → AreSorted d s → (t : FlatTerm) → IsInstanceBy d s rule.left t → t ≡ other.left → HasInstance d rule other.left
  made_instance rule other s h t equal is = record {
    by = substitution s;
    well_sorted = h.sorted;
    left = subst (λ u. BEqual d (apply (substitution s) (plain rule.left)) (plain u)) is equal;
  }
