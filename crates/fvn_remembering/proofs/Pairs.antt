-- Pairs that stand before another one do not bind its variable.
use Rattle.std.proofs.Common.{◌≡◌, ℕ, zero, suc, Bool, true, false, [], ◌∷◌, ◌++◌, ◌+◌, None, Some, refl, sym, ap, ◌∙◌, subst, take}
use Rattle.std.specs.Prelude.{slice_get, if◌then◌else◌}
use Rattle.std.proofs.lemmas.List.{take_more}
use Rattle.std.proofs.lemmas.Option.{slice_get_within, get_or_from_slice_get}
use Rattle.fvn_terms.specs.declared.plain.Var.{Var}
use Rattle.fvn_terms.specs.Substitution.{same_var}
use Rattle.fvn_forms.specs.Flat.{FlatTerm}
use Rattle.fvn_flat.specs.Bindings.{Bindings, bound, BindsOnce}
use Rattle.fvn_flat.proofs.Binding.{same_var_is, bound_first}

-- a variable that has a pair is bound
is_bound : (s : Bindings) (k : ℕ) (p : Var × FlatTerm) → slice_get s k ≡ Some p → bound s p.0 ≡ None → ⊥
is_bound [] k p e n = let z : None ≡ Some p = e in cc
is_bound (q ∷ s) zero p e n =
    let is : q ≡ p = cc in
    let z : Some q.1 ≡ None = sym (bound_first q s) ∙ subst (λ (y : Var × FlatTerm). bound (q ∷ s) y.0 ≡ None) (sym is) n in cc
is_bound (q ∷ s) (suc k) p e n = go (same_var q.0 p.0) refl (is_bound s k p e)
  where
    go : (b : Bool) → same_var q.0 p.0 ≡ b → (bound s p.0 ≡ None → ⊥) → ⊥
    go true f h = let z : Some q.1 ≡ None = sym (ap (λ b. if b then Some q.1 else bound s p.0) f) ∙ n in cc
    go false f h = h (sym (ap (λ b. if b then Some q.1 else bound s p.0) f) ∙ n)

pub bound_before : (s : Bindings) → BindsOnce s → (k : ℕ) (p : Var × FlatTerm) → slice_get s k ≡ Some p → bound (take k s) p.0 ≡ None
bound_before [] once k p e = let z : None ≡ Some p = e in cc
bound_before (q ∷ s) once zero p e = refl
bound_before (q ∷ s) once (suc k) p e = go (same_var q.0 p.0) refl (bound_before s once.1 k p e)
  where
    go : (b : Bool) → same_var q.0 p.0 ≡ b → bound (take k s) p.0 ≡ None → (if same_var q.0 p.0 then Some q.1 else bound (take k s) p.0) ≡ None
    go true f h = absurd (is_bound s k p e (subst (λ (x : Var). bound s x ≡ None) (same_var_is q.0 p.0 f) once.0))
    go false f h = ap (λ b. if b then Some q.1 else bound (take k s) p.0) f ∙ h

-- one more pair
pub copied_more : (s all more : Bindings) (k : ℕ) (p : Var × FlatTerm) → slice_get s k ≡ Some p → all ≡ take k s → more ≡ all ++ p ∷ [] → more ≡ take (k + 1) s
copied_more s all more k p e a m =
    m ∙ ap (λ (l : Bindings). l ++ p ∷ []) a ∙ ap (λ (q : Var × FlatTerm). take k s ++ q ∷ []) (sym (get_or_from_slice_get s k p p e)) ∙ sym (take_more s k p (slice_get_within s k p e))
