-- Bindings that are replaced one after another give what their variables unfold to.
use Rattle.std.proofs.Common.{◌≡◌, ℕ, suc, ◌+◌, ◌<◌, ◌≤◌, Bool, true, false, [], ◌∷◌, length, get_or, drop, Some, None, refl, sym, ap, ◌∙◌, subst, arith, All}
use Rattle.std.specs.Prelude.{if◌then◌else◌, ◌==◌}
use Rattle.std.proofs.lemmas.Bool.{eqb-true}
use Rattle.std.proofs.Math.Seq.{drop-cons}
use Rattle.std.proofs.lemmas.List.{drop_all}
use Rattle.std.proofs.lemmas.List.Elements.{All-head, All-tail}
use Rattle.fvn_terms.specs.declared.plain.Var.{Var}
use Rattle.fvn_terms.specs.declared.plain.OpId.{OpId}
use Rattle.fvn_terms.specs.declared.declarations.Declarations.{Declarations}
use Rattle.fvn_terms.specs.Term.{var}
use Rattle.fvn_terms.specs.Substitution.{Substitution, apply, followed_by, Occurs, same_var}
use Rattle.fvn_terms.specs.Signature.{kind, IsSort}
use Rattle.fvn_terms.proofs.Substitutions.{apply-apply, apply-var, apply-agree}
use Rattle.fvn_forms.specs.Flat.{FlatTerm, fvar, fapp, fnone, fmore, funpack, plain}
use Rattle.fvn_forms.specs.Canon.{eval, canon}
use Rattle.fvn_forms.specs.Settled.{Settled, SettledValues}
use Rattle.fvn_forms.specs.Good.{IsGood}
use Rattle.fvn_forms.proofs.Eval.{canon_settled, canon_plain, eval_apply}
use Rattle.fvn_forms.proofs.Instances.{inst_settled, inst_eval}
use Rattle.fvn_forms.proofs.LeastSort.{inst_of_kind}
use Rattle.fvn_flat.specs.Bindings.{Bindings, form_or, value, BindingsFit}
use Rattle.fvn_flat.specs.SolvedLists.{only, unfolded}
use Rattle.fvn_flat.specs.Forms.{variable_of, head_of, args_of}
use Rattle.fvn_flat.proofs.Binding.{same_var_is, bound_first}
use Rattle.fvn_flat.proofs.Composing.{empty_fits, bind_fits}
use Rattle.fvn_combine_choices.specs.Plans.{unfolds_to}
use Rattle.fvn_combine_unfolding.specs.Sizes.{IsFitting}
use Rattle.fvn_combine_unfolding.specs.inner.Replaced.{step, replaced}

-- a form that is read as a variable is that variable
pub variable_is : (t : FlatTerm) (x : Var) → variable_of t ≡ Some x → t ≡ fvar x
variable_is (fvar y) x e = let q : y ≡ x = cc in ap fvar q
variable_is (fapp f joined ts) x e = cc

-- no variable occurs in a constant
pub constant_free : (t : FlatTerm) (f : OpId) → head_of t ≡ Some f → (length (args_of t) == 0) ≡ true → (y : Var) → Occurs y (plain t) → ⊥
constant_free (fvar x) f h n y o = cc
constant_free (fapp f true fnone) g h n y o = o
constant_free (fapp f false fnone) g h n y o = o
constant_free (fapp f joined (fmore t ts)) g h n y o = absurd (let e = eqb-true (length (t ∷ funpack ts)) 0 n in omega (arith, e))

module _ (d : Declarations) where
  -- the variable itself becomes what it is bound to
  pub step_variable : (b : Var × FlatTerm) (t : FlatTerm) → t ≡ fvar b.0 → b.1 ≡ step d b t
  step_variable b t e = sym (ap (step d b) e ∙ ap (form_or b.0) (bound_first b []))

  -- one binding as a substitution
  pub one_fits : (b : Var × FlatTerm) → IsFitting d b → BindingsFit d (b ∷ [])
  one_fits b h = bind_fits d [] b.0 b.1 (empty_fits d) h.flat (λ i. h.kinded)

  plain_one : (b : Var × FlatTerm) (x : Var) → plain (value (b ∷ []) x) ≡ only b.0 (plain b.1) x
  plain_one b x = go (same_var b.0 x)
    where
      go : (c : Bool) → plain (form_or x (if c then Some b.1 else None)) ≡ (if c then plain b.1 else var x)
      go true = refl
      go false = refl

  -- the values of a substitution, after one binding
  after_one : (s : Substitution) (b : Var × FlatTerm) → IsFitting d b → (t : FlatTerm)
      → canon d (apply s (plain (step d b t))) ≡ canon d (apply (followed_by (only b.0 (plain b.1)) s) (plain t))
  after_one s b h t =
      let v = λ (x : Var). canon d (s x) in
      let settled : SettledValues d v = λ x. canon_settled d (s x) in
      eval_apply d fvar s (plain (step d b t))
      ∙ inst_eval d (value (b ∷ [])) v (one_fits b h).settled settled (plain t)
      ∙ (λ i. eval d (λ x. eval d v (plain_one b x i)) (plain t))
      ∙ sym (eval_apply d v (only b.0 (plain b.1)) (plain t))
      ∙ sym (eval_apply d fvar s (apply (only b.0 (plain b.1)) (plain t)))
      ∙ ap (canon d) (apply-apply (only b.0 (plain b.1)) s (plain t))

  step_settled : (b : Var × FlatTerm) → IsFitting d b → (t : FlatTerm) → Settled d (step d b t)
  step_settled b h t = inst_settled d (value (b ∷ [])) (one_fits b h).settled t

  -- a variable that does not occur
  stays : (b : Var × FlatTerm) (t : FlatTerm) → (Occurs b.0 (plain t) → ⊥) → (x : Var) → Occurs x (plain t) → (c : Bool) → same_var b.0 x ≡ c → plain (form_or x (if c then Some b.1 else None)) ≡ var x
  stays b t free x occurs true e = absurd (free (subst (λ y. Occurs y (plain t)) (sym (same_var_is b.0 x e)) occurs))
  stays b t free x occurs false e = refl

  pub step_free : (b : Var × FlatTerm) → IsFitting d b → (t : FlatTerm) → Settled d t → (Occurs b.0 (plain t) → ⊥) → t ≡ step d b t
  step_free b h t flat free =
      let s = value (b ∷ []) in
      sym (canon_plain d t flat)
      ∙ ap (canon d) (sym (apply-agree (λ x. plain (s x)) var (plain t) (λ x o. stays b t free x o (same_var b.0 x) refl) ∙ apply-var (plain t)))
      ∙ eval_apply d fvar (λ x. plain (s x)) (plain t)
      ∙ (λ i. eval d (λ x. canon_plain d (s x) ((one_fits b h).settled x) i) (plain t))

  -- all bindings, one after another
  pub replaced_is : (bindings : Bindings) → All (IsFitting d) bindings → (t : FlatTerm) → Settled d t → replaced d bindings t ≡ canon d (apply (unfolded bindings) (plain t))
  replaced_is [] h t flat = sym (ap (canon d) (apply-var (plain t)) ∙ canon_plain d t flat)
  replaced_is (b ∷ bindings) h t flat =
      let here = All-head (IsFitting d) b bindings h in
      replaced_is bindings (All-tail (IsFitting d) b bindings h) (step d b t) (step_settled b here t)
      ∙ after_one (unfolded bindings) b here t

  -- a form without variables stays as it is
  pub replaced_free : (bindings : Bindings) → All (IsFitting d) bindings → (t : FlatTerm) → Settled d t → ((y : Var) → Occurs y (plain t) → ⊥) → replaced d bindings t ≡ t
  replaced_free [] h t flat free = refl
  replaced_free (b ∷ bindings) h t flat free =
      ap (replaced d bindings) (sym (step_free b (All-head (IsFitting d) b bindings h) t flat (free b.0)))
      ∙ replaced_free bindings (All-tail (IsFitting d) b bindings h) t flat free

  -- what a variable unfolds to
  pub unfolding_is : (bindings : Bindings) → All (IsFitting d) bindings → (x : Var) → replaced d bindings (fvar x) ≡ unfolds_to d bindings x
  unfolding_is bindings h x = replaced_is bindings h (fvar x) tt

  -- one more binding, and all
  pub replaced_more : (bindings : Bindings) (i : ℕ) (p : Var × FlatTerm) (t now : FlatTerm) → i < length bindings → p ≡ get_or bindings i p → now ≡ step d p t → replaced d (drop (i + 1) bindings) now ≡ replaced d (drop i bindings) t
  replaced_more bindings i p t now l is e =
      let next : suc i ≡ i + 1 = omega arith in
      let first : drop i bindings ≡ p ∷ drop (i + 1) bindings =
      drop-cons bindings i p l ∙ ap (λ (k : ℕ). get_or bindings i p ∷ drop k bindings) next ∙ ap (λ (q : Var × FlatTerm). q ∷ drop (i + 1) bindings) (sym is) in
      ap (replaced d (drop (i + 1) bindings)) e ∙ ap (λ (bs : Bindings). replaced d bs t) (sym first)

  pub replaced_all : (bindings : Bindings) (i : ℕ) (x : Var) (t : FlatTerm) → All (IsFitting d) bindings → length bindings ≤ i → replaced d (drop i bindings) t ≡ replaced d bindings (fvar x) → t ≡ unfolds_to d bindings x
  replaced_all bindings i x t h l e = ap (λ (bs : Bindings). replaced d bs t) (sym (drop_all i bindings l)) ∙ e ∙ unfolding_is bindings h x

  module _ (good : IsGood d) where
    -- a step keeps forms flat, and their kinds
    pub step_fits : (b : Var × FlatTerm) → IsFitting d b → (x : Var) (t : FlatTerm) → IsFitting d (x, t) → IsFitting d (x, step d b t)
    step_fits b h x t k = record {
      flat = step_settled b h t;
      kinded = inst_of_kind d good (value (b ∷ [])) (one_fits b h) t (kind d x.sort) k.kinded;
    }

    replaced_fits : (bindings : Bindings) → All (IsFitting d) bindings → (x : Var) (t : FlatTerm) → IsFitting d (x, t) → IsFitting d (x, replaced d bindings t)
    replaced_fits [] h x t k = k
    replaced_fits (b ∷ bindings) h x t k =
        replaced_fits bindings (All-tail (IsFitting d) b bindings h) x (step d b t) (step_fits b (All-head (IsFitting d) b bindings h) x t k)

    pub variable_fits : (x : Var) → IsSort d x.sort → IsFitting d (x, fvar x)
    variable_fits x i = record { flat = tt; kinded = (i, refl) }

    -- what a variable unfolds to is flat, and of its kind
    pub unfolding_fits : (bindings : Bindings) → All (IsFitting d) bindings → (x : Var) → IsSort d x.sort → IsFitting d (x, unfolds_to d bindings x)
    unfolding_fits bindings h x i =
        subst (λ (t : FlatTerm). IsFitting d (x, t)) (unfolding_is bindings h x) (replaced_fits bindings h x (fvar x) (variable_fits x i))
