-- An instance of an equation is a tight instance of one of its identity instances: where a value is an identity, that is chosen.
use Rattle.std.proofs.Common.{◌≡◌, ◌⊎◌, Bool, true, false, Option, Some, None, refl, sym, ap, ◌∙◌, subst, inl, inr}
use Rattle.std.specs.Prelude.{if◌then◌else◌, Contains}
use Rattle.fvn_terms.specs.declared.plain.Var.{Var}
use Rattle.fvn_terms.specs.declared.plain.OpId.{OpId}
use Rattle.fvn_terms.specs.declared.declarations.Declarations.{Declarations}
use Rattle.fvn_terms.specs.Term.{Term, var}
use Rattle.fvn_terms.specs.Substitution.{Substitution, apply, Occurs}
use Rattle.fvn_terms.specs.Signature.{axioms, kind}
use Rattle.fvn_terms.specs.Equality.{constant, BEqual}
use Rattle.fvn_terms.specs.Sorts.{HasSort, IsWellSorted}
use Rattle.fvn_terms.specs.Theory.{Equations, IsRule}
use Rattle.fvn_terms.proofs.Equal.{HasKind-apply, BEqual-trans, BEqual-sym}
use Rattle.fvn_terms.proofs.Occurrences.{occurs_value, BEqual-occurs}
use Rattle.fvn_forms.specs.Flat.{FlatTerm, fvar, fconstant, plain}
use Rattle.fvn_forms.specs.Canon.{as_constant, eval, canon, inst}
use Rattle.fvn_forms.specs.Good.{IsGood}
use Rattle.fvn_forms.proofs.Build.{is_constant}
use Rattle.fvn_forms.proofs.Eval.{eval_apply}
use Rattle.fvn_forms.proofs.Instances.{eval_canon}
use Rattle.fvn_forms.proofs.ToCanon.{to_canon}
use Rattle.fvn_signature.specs.Queries.{IsCompleted}
use Rattle.fvn_flat.specs.Rules.{IsIdentity, GoesToIdentity, IsIdentityChoice}
use Rattle.fvn_rewrite_laws.specs.Kinds.{HasOneKind}
use Rattle.fvn_rewrite_laws.specs.Identities.{is_listed_op, identities}
use Rattle.fvn_rewrite_laws.proofs.Identities.{op_listed, listed_op, identity_listed, listed_identity}
use Rattle.fvn_rewrite_laws.proofs.Listing.{occurs_test, occurs_if, test_if}
use Rattle.fvn_rewrite_laws.proofs.Choosing.{occurring_sort}
use Rattle.fvn_rewrite_laws.proofs.Collapsing.{keeps}
use Rattle.fvn_rewrite_laws.specs.Admissible.{AreAdmissible}
use Rattle.fvn_rewrite_coherence.proofs.Tight.{IsIdentityForm, IsTight, tight_where}
use Rattle.fvn_rewrite_coherence.proofs.TightSteps.{values, values_settled, IsTightInstance}

module _ (d : Declarations) (good : IsGood d) (completed : IsCompleted d) where
  module _ (equation : Term × Term) (kinds : HasOneKind d equation) (s : Substitution) (sorted : IsWellSorted d s) where
    -- a variable that occurs goes to the identity that its value is; all others stay
    abbrev picked : Bool → Option OpId → Var → Term
    picked false o x = var x
    picked true None x = var x
    picked true (Some e) x = if is_listed_op (identities d) e then constant e else var x

    abbrev chosen : Substitution
    chosen x = picked (occurs_test x equation.0) (as_constant (values d s x)) x

    abbrev Picks : Var → Term → Type 0
    Picks x u = (u ≡ var x) ⊎ ((e : OpId) × (IsIdentity d e × (Occurs x equation.0 × ((u ≡ constant e) × (values d s x ≡ fconstant e)))))

    picks : (x : Var) (b : Bool) → occurs_test x equation.0 ≡ b → (o : Option OpId) → as_constant (values d s x) ≡ o → Picks x (picked b o x)
    picks x false p o q = inl refl
    picks x true p None q = inl refl
    picks x true p (Some e) q = go (is_listed_op (identities d) e) refl where
      go : (c : Bool) → is_listed_op (identities d) e ≡ c → Picks x (if c then constant e else var x)
      go true r = inr (e, (listed_identity d e (op_listed (identities d) e r), (occurs_if x equation.0 p, (refl, is_constant (values d s x) e q))))
      go false r = inl refl

    picks_chosen : (x : Var) → Picks x (chosen x)
    picks_chosen x = picks x (occurs_test x equation.0) refl (as_constant (values d s x)) refl

    has_sort : (x : Var) (e : OpId) → Occurs x equation.0 → values d s x ≡ fconstant e → HasSort d (constant e) x.sort
    has_sort x e o is =
        let i = occurring_sort d x equation.0 kinds.kind kinds.left o in
        let equal : BEqual d (s x) (constant e) = subst (λ z. BEqual d (s x) (plain z)) is (to_canon d good.fits (s x) (kind d x.sort) (sorted.0 x i)) in
        let h = sorted.1 x in
        record { form = h.form; equal = BEqual-trans d (BEqual-sym d equal) h.equal; gets = h.gets }

    choice : IsIdentityChoice d equation.0 chosen
    choice x = go (picks_chosen x) where
      go : Picks x (chosen x) → (chosen x ≡ var x) ⊎ (Occurs x equation.0 × GoesToIdentity d chosen x)
      go (inl e) = inl e
      go (inr w) = inr (w.1.1.0, record { operator = w.0; identity = w.1.0; sorted = has_sort x w.0 w.1.1.0 w.1.1.1.1; is = w.1.1.1.0 })

    same_value : (x : Var) → eval d (values d s) (chosen x) ≡ values d s x
    same_value x = go (picks_chosen x) where
      go : Picks x (chosen x) → eval d (values d s) (chosen x) ≡ values d s x
      go (inl e) = ap (eval d (values d s)) e
      go (inr w) = ap (eval d (values d s)) w.1.1.1.0 ∙ sym w.1.1.1.1

    instance_is : (t : Term) → canon d (apply s t) ≡ inst d (values d s) (canon d (apply chosen t))
    instance_is t =
        let one : (λ x. eval d (values d s) (chosen x)) ≡ values d s = λ i x. same_value x i in
        eval_apply d fvar s t
        ∙ ap (λ (w : Var → FlatTerm). eval d w t) (sym one)
        ∙ sym (eval_apply d (values d s) chosen t)
        ∙ eval_canon d (values d s) (values_settled d s) (apply chosen t)

    stays_tight : (x y : Var) → Occurs y equation.0 → Occurs x (chosen y) → IsIdentityForm d (values d s x) → ⊥
    stays_tight x y occurs o w = go (occurs_test y equation.0) refl (as_constant (values d s y)) refl o where
      at : (e : OpId) → as_constant (values d s y) ≡ Some e → (c : Bool) → is_listed_op (identities d) e ≡ c → Occurs x (if c then constant e else var y) → ⊥
      at e q true r h = h
      at e q false r h =
          let one : Some w.1.0 ≡ Some e = sym w.1.2 ∙ ap (λ z. as_constant (values d s z)) h ∙ q in
          let same_op : w.1.0 ≡ e = cc in
          let listed = listed_op (identities d) e (subst (Contains (identities d)) same_op (identity_listed d w.0 w.1.0 w.1.1)) in
          let both : true ≡ false = sym listed ∙ r in
          cc

      go : (b : Bool) → occurs_test y equation.0 ≡ b → (c : Option OpId) → as_constant (values d s y) ≡ c → Occurs x (picked b c y) → ⊥
      go false p c q h = let both : true ≡ false = sym (test_if y equation.0 occurs) ∙ p in cc
      go true p None q h = let both : Some w.1.0 ≡ None = sym w.1.2 ∙ ap (λ z. as_constant (values d s z)) h ∙ q in cc
      go true p (Some e) q h = at e q (is_listed_op (identities d) e) refl h

    abbrev left : FlatTerm
    left = canon d (apply chosen equation.0)

    tight : IsTight d (values d s) left
    tight = tight_where d (values d s) left (λ x o.
        let kept = HasKind-apply d chosen (keeps d good completed equation.0 kinds.kind kinds.left chosen choice) equation.0 kinds.kind kinds.left in
        let raw = BEqual-occurs x d (apply chosen equation.0) (plain left) (to_canon d good.fits (apply chosen equation.0) kinds.kind kept) o in
        let v = occurs_value x chosen equation.0 raw in
        stays_tight x v.0 v.1.0 v.1.1)

  -- the sides of an equation under a well-sorted substitution
  pub tight_instance : (equations : Equations) → AreAdmissible d equations → (t u : Term) → IsRule d equations t u → IsTightInstance d equations (canon d t) (canon d u)
  tight_instance equations admissible t u r =
      let equation : Term × Term = (r.left, r.right) in
      let kinds = (admissible equation r.listed).kinded.kinds in
      record {
        equation = equation;
        listed = r.listed;
        left = left equation kinds r.by r.well_sorted;
        right = canon d (apply (chosen equation kinds r.by r.well_sorted) r.right);
        instance_of = record { by = chosen equation kinds r.by r.well_sorted; choice = choice equation kinds r.by r.well_sorted; left = refl; right = refl };
        by = r.by;
        well_sorted = r.well_sorted;
        tight = tight equation kinds r.by r.well_sorted;
        from = ap (canon d) r.from ∙ instance_is equation kinds r.by r.well_sorted r.left;
        to = ap (canon d) r.to ∙ instance_is equation kinds r.by r.well_sorted r.right;
      }
