-- Variables of the terms of a substitution, listed in order of first occurrence: none twice, and all that occur.
use Rattle.std.proofs.Common.{◌≡◌, Bool, true, false, List, [], ◌∷◌, map, Some, refl, sym, ap, ◌∙◌, subst}
use Rattle.std.specs.Prelude.{if◌then◌else◌}
use Rattle.fvn_terms.specs.declared.plain.Var.{Var}
use Rattle.fvn_terms.specs.Substitution.{same_var, Occurs}
use Rattle.fvn_forms.specs.Flat.{FlatTerm, fpack, plain}
use Rattle.fvn_flat.specs.Bindings.{Bindings, bound}
use Rattle.fvn_flat.specs.Variables.{listed, with_variables, with_all_variables}
use Rattle.fvn_flat.proofs.ListedVariables.{Distinct, with_all_distinct, still_all_listed, occurring_listed}
use Rattle.fvn_refine.specs.Refinements.{variables_of_terms}

in_terms : (s : Bindings) (vars : List Var) (x y : Var) (t : FlatTerm) → bound s x ≡ Some t → Occurs y (plain t) → listed (with_all_variables (fpack (map (λ p. p.1) s)) vars) y ≡ true
in_terms [] vars x y t e o = cc
in_terms (p ∷ s) vars x y t e o = go (same_var p.0 x) refl (in_terms s (with_variables p.1 vars) x y t)
  where
    go : (b : Bool) → same_var p.0 x ≡ b → (bound s x ≡ Some t → Occurs y (plain t) → listed (with_all_variables (fpack (map (λ p. p.1) s)) (with_variables p.1 vars)) y ≡ true) →
        listed (with_all_variables (fpack (map (λ p. p.1) s)) (with_variables p.1 vars)) y ≡ true
    go true f rest =
        let q : Some p.1 ≡ Some t = ap (λ b. if b then Some p.1 else bound s x) (sym f) ∙ e in
        let r : p.1 ≡ t = cc in
        still_all_listed (fpack (map (λ p. p.1) s)) (with_variables p.1 vars) y (occurring_listed p.1 vars y (subst (λ u. Occurs y (plain u)) (sym r) o))
    go false f rest = rest (ap (λ b. if b then Some p.1 else bound s x) (sym f) ∙ e) o

-- what occurs in a term to which a variable is bound is listed
pub occurs_in_terms : (s : Bindings) (x y : Var) (t : FlatTerm) → bound s x ≡ Some t → Occurs y (plain t) → listed (variables_of_terms s) y ≡ true
occurs_in_terms s x y t e o = in_terms s [] x y t e o

pub terms_distinct : (s : Bindings) → Distinct (variables_of_terms s)
terms_distinct s = with_all_distinct (fpack (map (λ p. p.1) s)) [] tt
