-- What substitutions bind that are made of others.
use Rattle.std.proofs.Common.{◌≡◌, ℕ, zero, suc, ◌+◌, ◌<◌, Bool, true, false, List, [], ◌∷◌, ◌++◌, length, take, get_or, Option, Some, None, refl, sym, ap, ◌∙◌, subst, arith}
use Rattle.std.specs.Prelude.{not, if◌then◌else◌, is_some, Contains}
use Rattle.std.specs.Option.{option_map}
use Rattle.std.proofs.lemmas.List.{map_more}
use Rattle.fvn_terms.specs.declared.plain.Var.{Var}
use Rattle.fvn_terms.specs.declared.declarations.Declarations.{Declarations}
use Rattle.fvn_terms.specs.Signature.{kind, IsSort, HasKind}
use Rattle.fvn_terms.specs.Substitution.{same_var}
use Rattle.fvn_forms.specs.Flat.{FlatTerm, fvar, plain}
use Rattle.fvn_forms.specs.Canon.{eval, inst}
use Rattle.fvn_forms.specs.Settled.{Settled, SettledValues}
use Rattle.fvn_forms.specs.Good.{IsGood}
use Rattle.fvn_forms.proofs.Eval.{eval_settled}
use Rattle.fvn_forms.proofs.Instances.{inst-inst}
use Rattle.fvn_forms.proofs.LeastSort.{inst_of_kind}
use Rattle.fvn_flat.specs.Fits.{Fits}
use Rattle.fvn_flat.specs.Bindings.{Bindings, bound, form_or, value, BindsOnce, BindingsFit, changed, chosen, is_free, composed, IsOneThenOther, IsRestriction}
use Rattle.fvn_flat.proofs.Binding.{same_var_is, or_else, bound-append, bound_first, Apart, BindsOnce-append}
use Rattle.fvn_flat.specs.Variables.{listed}
use Rattle.fvn_flat.proofs.Listed.{listed_if, listed_only}

pub bound-changed : (g : FlatTerm → FlatTerm) (s : Bindings) (x : Var) → bound (changed g s) x ≡ option_map g (bound s x)
bound-changed g [] x = refl
bound-changed g (p ∷ s) x = go (same_var p.0 x) (bound-changed g s x)
  where
    go : (b : Bool) → bound (changed g s) x ≡ option_map g (bound s x) → (if b then Some (g p.1) else bound (changed g s) x) ≡ option_map g (if b then Some p.1 else bound s x)
    go true h = refl
    go false h = h

pub bound-chosen : (test : Var → Bool) (s : Bindings) (x : Var) → bound (chosen test s) x ≡ (if test x then bound s x else None)
bound-chosen test [] x = go (test x)
  where
    go : (c : Bool) → bound [] x ≡ (if c then bound [] x else None)
    go true = refl
    go false = refl
bound-chosen test (p ∷ s) x = go (test p.0) (same_var p.0 x) (test x) refl (λ e. ap test (sym (same_var_is p.0 x e))) (bound-chosen test s x)
  where
    go : (a b c : Bool) → same_var p.0 x ≡ b → (b ≡ true → c ≡ a) → bound (chosen test s) x ≡ (if c then bound s x else None) →
        bound (if a then p ∷ chosen test s else chosen test s) x ≡ (if c then (if b then Some p.1 else bound s x) else None)
    go true true true e k h = ap (λ z. if z then Some p.1 else bound (chosen test s) x) e
    go true true false e k h = let q : false ≡ true = k refl in cc
    go true false c e k h = ap (λ z. if z then Some p.1 else bound (chosen test s) x) e ∙ h
    go false true true e k h = let q : true ≡ false = k refl in cc
    go false true false e k h = h
    go false false c e k h = h

-- one more pair
pub changed-step : (g : FlatTerm → FlatTerm) (s : Bindings) (i : ℕ) (p : Var × FlatTerm) → i < length s → p ≡ get_or s i p → changed g (take (i + 1) s) ≡ changed g (take i s) ++ (p.0, g p.1) ∷ []
changed-step g s i p within is = map_more (λ (q : Var × FlatTerm). (q.0, g q.1)) s i p within ∙ ap (λ (q : Var × FlatTerm). changed g (take i s) ++ (q.0, g q.1) ∷ []) (sym is)

pub BindsOnce-changed : (g : FlatTerm → FlatTerm) (s : Bindings) → BindsOnce s → BindsOnce (changed g s)
BindsOnce-changed g [] h = tt
BindsOnce-changed g (p ∷ s) h = (bound-changed g s p.0 ∙ ap (option_map g) h.0, BindsOnce-changed g s h.1)

pub BindsOnce-chosen : (test : Var → Bool) (s : Bindings) → BindsOnce s → BindsOnce (chosen test s)
BindsOnce-chosen test [] h = tt
BindsOnce-chosen test (p ∷ s) h = go (test p.0) (BindsOnce-chosen test s h.1)
  where
    none : (c : Bool) → (if c then bound s p.0 else None) ≡ None
    none true = h.0
    none false = refl

    go : (a : Bool) → BindsOnce (chosen test s) → BindsOnce (if a then p ∷ chosen test s else chosen test s)
    go true k = (bound-chosen test s p.0 ∙ none (test p.0), k)
    go false k = k

changed_apart : (g : FlatTerm → FlatTerm) (s c : Bindings) → Apart (changed g s) (chosen (is_free s) c)
changed_apart g s c x t e = bound-chosen (is_free s) c x ∙ go (bound s x) refl
  where
    go : (o : Option FlatTerm) → bound s x ≡ o → (if not (is_some (bound s x)) then bound c x else None) ≡ None
    go None f = let q : None ≡ Some t = sym (bound-changed g s x ∙ ap (option_map g) f) ∙ e in cc
    go (Some u) f = ap (λ o. if not (is_some o) then bound c x else None) f

module _ (d : Declarations) where
  pub composed_binds_once : (s c : Bindings) → BindsOnce s → BindsOnce c → BindsOnce (composed d s c)
  composed_binds_once s c h k =
      BindsOnce-append (changed (inst d (value c)) s) (chosen (is_free s) c) (BindsOnce-changed (inst d (value c)) s h) (BindsOnce-chosen (is_free s) c k) (changed_apart (inst d (value c)) s c)

  bound-composed : (s c : Bindings) (x : Var) → bound (composed d s c) x ≡ or_else (option_map (inst d (value c)) (bound s x)) (if is_free s x then bound c x else None)
  bound-composed s c x =
      bound-append (changed (inst d (value c)) s) (chosen (is_free s) c) x
      ∙ ap (λ o. or_else o (bound (chosen (is_free s) c) x)) (bound-changed (inst d (value c)) s x)
      ∙ ap (or_else (option_map (inst d (value c)) (bound s x))) (bound-chosen (is_free s) c x)

  -- on each variable one and then the other
  pub value-composed : (s c : Bindings) (x : Var) → value (composed d s c) x ≡ inst d (value c) (value s x)
  value-composed s c x = ap (form_or x) (bound-composed s c x) ∙ go (bound s x) refl
    where
      go : (o : Option FlatTerm) → bound s x ≡ o → form_or x (or_else (option_map (inst d (value c)) (bound s x)) (if is_free s x then bound c x else None)) ≡ inst d (value c) (form_or x (bound s x))
      go None f = rw f refl
      go (Some u) f = rw f refl

  -- on each form
  pub composed_is_both : (s c : Bindings) → SettledValues d (value s) → SettledValues d (value c) → IsOneThenOther d s c (composed d s c)
  composed_is_both s c hs hc t = (λ i. eval d (λ x. value-composed s c x i) (plain t)) ∙ sym (inst-inst d (value s) (value c) hs hc t)

  pub composed_fits : IsGood d → (s c : Bindings) → BindingsFit d s → BindingsFit d c → BindingsFit d (composed d s c)
  composed_fits good s c hs hc = record {
    settled = λ x. subst (Settled d) (sym (value-composed s c x)) (eval_settled d (value c) hc.settled (plain (value s x)));
    keeps_kinds = λ x i. subst (λ u. HasKind d (plain u) (kind d x.sort)) (sym (value-composed s c x)) (inst_of_kind d good (value c) hc (value s x) (kind d x.sort) (hs.keeps_kinds x i));
  }

  tail_settled : (p : Var × FlatTerm) (s : Bindings) → BindsOnce (p ∷ s) → SettledValues d (value (p ∷ s)) → SettledValues d (value s)
  tail_settled p s h k x = go (same_var p.0 x) refl
    where
      go : (b : Bool) → same_var p.0 x ≡ b → Settled d (value s x)
      go true e = subst (λ y. Settled d (value s y)) (same_var_is p.0 x e) (subst (λ o. Settled d (form_or p.0 o)) (sym h.0) tt)
      go false e = subst (λ b. Settled d (form_or x (if b then Some p.1 else bound s x))) e (k x)

  -- the term of each pair
  pub pair_settled : (s : Bindings) → BindsOnce s → SettledValues d (value s) → (i : ℕ) (p : Var × FlatTerm) → i < length s → p ≡ get_or s i p → Settled d p.1
  pair_settled [] h k i p within is = absurd (omega arith)
  pair_settled (q ∷ s) h k zero p within is =
      let first : Settled d q.1 = subst (λ o. Settled d (form_or q.0 o)) (bound_first q s) (k q.0) in
      subst (λ (r : Var × FlatTerm). Settled d r.1) (sym is) first
  pair_settled (q ∷ s) h k (suc i) p within is = pair_settled s h.1 (tail_settled q s h k) i p (omega arith) is

  -- and with the terms of the pairs alone
  pub changed_fits : IsGood d → (s c : Bindings) → BindingsFit d s → BindingsFit d c → BindingsFit d (changed (inst d (value c)) s)
  changed_fits good s c hs hc = record {
    settled = λ x. one x (λ u. Settled d u) (eval_settled d (value c) hc.settled (plain (value s x))) tt;
    keeps_kinds = λ x i. one x (λ u. HasKind d (plain u) (kind d x.sort)) (inst_of_kind d good (value c) hc (value s x) (kind d x.sort) (hs.keeps_kinds x i)) (i, refl);
  }
    where
      one : (x : Var) (P : FlatTerm → Type 0) → P (inst d (value c) (value s x)) → P (fvar x) → P (value (changed (inst d (value c)) s) x)
      one x P p q = subst (λ o. P (form_or x o)) (sym (bound-changed (inst d (value c)) s x)) (go (bound s x) p)
        where
          go : (o : Option FlatTerm) → P (inst d (value c) (form_or x o)) → P (form_or x (option_map (inst d (value c)) o))
          go None p = q
          go (Some t) p = p

pub chosen_is_restriction : (vars : List Var) (s : Bindings) → IsRestriction vars s (chosen (listed vars) s)
chosen_is_restriction vars s = record {
  kept = λ x h. bound-chosen (listed vars) s x ∙ ap (λ b. if b then bound s x else None) (listed_if vars x h);
  others = λ x n. bound-chosen (listed vars) s x ∙ none x n (listed vars x) refl;
}
  where
    none : (x : Var) → (Contains vars x → ⊥) → (b : Bool) → listed vars x ≡ b → (if listed vars x then bound s x else None) ≡ None
    none x n true e = absurd (n (listed_only vars x e))
    none x n false e = ap (λ b. if b then bound s x else None) e

module _ (d : Declarations) where
  -- the substitution that binds nothing fits
  pub empty_fits : BindingsFit d []
  empty_fits = record { settled = λ x. tt; keeps_kinds = λ x i. (i, refl) }

  -- a restriction of one that fits
  pub restriction_fits : (vars : List Var) (s r : Bindings) → IsRestriction vars s r → BindingsFit d s → BindingsFit d r
  restriction_fits vars s r h fit = record {
    settled = λ x. one x (λ u. Settled d u) (fit.settled x) tt;
    keeps_kinds = λ x i. one x (λ u. HasKind d (plain u) (kind d x.sort)) (fit.keeps_kinds x i) (i, refl);
  }
    where
      one : (x : Var) (P : FlatTerm → Type 0) → P (value s x) → P (fvar x) → P (value r x)
      one x P p q = go (listed vars x) refl
        where
          go : (b : Bool) → listed vars x ≡ b → P (value r x)
          go true e = subst (λ o. P (form_or x o)) (sym (h.kept x (listed_only vars x e))) p
          go false e = subst (λ o. P (form_or x o)) (sym (h.others x (λ k. let f = listed_if vars x k in cc))) q

  -- one more variable, bound to a form that is flat and of the variable's kind
  pub bind_fits : (s : Bindings) (v : Var) (t : FlatTerm) → BindingsFit d s → Settled d t → (IsSort d v.sort → HasKind d (plain t) (kind d v.sort)) → BindingsFit d (s ++ (v, t) ∷ [])
  bind_fits s v t fit flat kinded = record {
    settled = λ x. one x (λ u. Settled d u) (fit.settled x) (λ e. flat);
    keeps_kinds = λ x i. one x (λ u. HasKind d (plain u) (kind d x.sort)) (fit.keeps_kinds x i) (λ e. subst (λ y. HasKind d (plain t) (kind d y.sort)) e (kinded (subst (λ y. IsSort d y.sort) (sym e) i)));
  }
    where
      one : (x : Var) (P : FlatTerm → Type 0) → P (value s x) → (v ≡ x → P t) → P (value (s ++ (v, t) ∷ []) x)
      one x P p q = subst (λ o. P (form_or x o)) (sym (bound-append s ((v, t) ∷ []) x)) (go (bound s x) (same_var v x) refl p)
        where
          go : (o : Option FlatTerm) (b : Bool) → same_var v x ≡ b → P (form_or x o) → P (form_or x (or_else o (if b then Some t else None)))
          go (Some u) b e k = k
          go None true e k = q (same_var_is v x e)
          go None false e k = k

  -- what a variable of a known sort is bound to fits
  pub bound_fits : (s : Bindings) (x : Var) (t : FlatTerm) → BindingsFit d s → IsSort d x.sort → bound s x ≡ Some t → Fits d t
  bound_fits s x t fit i e =
      let is : value s x ≡ t = ap (form_or x) e in
      subst (Fits d) is record { flat = fit.settled x; kinded = (kind d x.sort, fit.keeps_kinds x i) }
