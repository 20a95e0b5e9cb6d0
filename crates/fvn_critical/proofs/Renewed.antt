-- A rule under new names for its variables is renewed.
use Rattle.std.proofs.Common.{◌≡◌, ℕ, ◌+◌, ◌≤◌, ◌<◌, Bool, true, false, List, [], ◌∷◌, Some, refl, sym, ap, ◌∙◌, subst, inl, inr}
use Rattle.std.specs.Prelude.{◌||◌, if◌then◌else◌, Contains}
use Rattle.fvn_base.specs.declared.limits.TheConstants.{FIRST_FRESH}
use Rattle.fvn_base.proofs.Membership.{contains_here, contains_later}
use Rattle.fvn_terms.specs.declared.plain.Var.{Var}
use Rattle.fvn_terms.specs.declared.declarations.Declarations.{Declarations}
use Rattle.fvn_terms.specs.Term.{var}
use Rattle.fvn_terms.specs.Signature.{IsTerm}
use Rattle.fvn_terms.specs.Substitution.{same_var, apply, Occurs}
use Rattle.fvn_terms.specs.Equality.{BEqual}
use Rattle.fvn_terms.proofs.Variables.{same_var_is}
use Rattle.fvn_terms.proofs.Occurrences.{occurs_value, BEqual-occurs}
use Rattle.fvn_forms.specs.Flat.{FlatTerm, fvar, plain}
use Rattle.fvn_forms.specs.Canon.{eval, inst}
use Rattle.fvn_forms.specs.Good.{IsGood}
use Rattle.fvn_forms.proofs.Eval.{eval_apply}
use Rattle.fvn_flat.specs.Bindings.{Bindings, bound, form_or, value, BindingsFit}
use Rattle.fvn_flat.specs.Variables.{listed, with_variables, fresh_for, renaming, RenamesApart}
use Rattle.fvn_flat.specs.Drawn.{Renaming, renamed}
use Rattle.fvn_flat.specs.Fits.{Fits}
use Rattle.fvn_flat.specs.Successors.{renamed_form}
use Rattle.fvn_flat.proofs.Instances.{inst_equal}
use Rattle.fvn_flat.proofs.ListedVariables.{still_listed, occurring_listed}
use Rattle.fvn_rewrite_rules.specs.declared.rule.Rule.{Rule}
use Rattle.fvn_critical_pairs.specs.Overlaps.{OccursInRule, IsNumberedUpTo, IsRenewed}

-- the new variable for x
abbrev pub name_for : ℕ → List Var → Var → Var
name_for n [] x = x
name_for n (z ∷ names) x = if same_var z x then fresh_for n z else name_for (n + 1) names x

renamed_value : (n : ℕ) (names : List Var) (x : Var) → value (renaming n names) x ≡ fvar (name_for n names x)
renamed_value n [] x = refl
renamed_value n (z ∷ names) x = go (same_var z x) refl (renamed_value (n + 1) names x)
  where
    go : (b : Bool) → same_var z x ≡ b → value (renaming (n + 1) names) x ≡ fvar (name_for (n + 1) names x) → value (renaming n (z ∷ names)) x ≡ fvar (name_for n (z ∷ names) x)
    go true e rest =
        ap (λ b. form_or x (if b then Some (fvar (fresh_for n z)) else bound (renaming (n + 1) names) x)) e ∙ ap (λ b. fvar (if b then fresh_for n z else name_for (n + 1) names x)) (sym e)
    go false e rest =
        ap (λ b. form_or x (if b then Some (fvar (fresh_for n z)) else bound (renaming (n + 1) names) x)) e
        ∙ rest
        ∙ ap (λ b. fvar (if b then fresh_for n z else name_for (n + 1) names x)) (sym e)

name_sort : (n : ℕ) (names : List Var) (x : Var) → (name_for n names x).sort ≡ x.sort
name_sort n [] x = refl
name_sort n (z ∷ names) x = go (same_var z x) refl (name_sort (n + 1) names x)
  where
    go : (b : Bool) → same_var z x ≡ b → (name_for (n + 1) names x).sort ≡ x.sort → (name_for n (z ∷ names) x).sort ≡ x.sort
    go true e rest = ap (λ b. (if b then fresh_for n z else name_for (n + 1) names x).sort) e ∙ ap (λ (y : Var). y.sort) (same_var_is z x e)
    go false e rest = ap (λ b. (if b then fresh_for n z else name_for (n + 1) names x).sort) e ∙ rest

listed_contains : (vars : List Var) (x : Var) → listed vars x ≡ true → Contains vars x
listed_contains [] x e = cc
listed_contains (z ∷ vars) x e = go (same_var z x) refl (listed_contains vars x)
  where
    go : (b : Bool) → same_var z x ≡ b → (listed vars x ≡ true → Contains vars x) → Contains (z ∷ vars) x
    go true q rest = subst (λ y. Contains (y ∷ vars) x) (sym (same_var_is z x q)) (contains_here x vars)
    go false q rest = contains_later z vars x (rest (ap (λ b. b || listed vars x) (sym q) ∙ e))

same_variable : (x y : Var) → fvar x ≡ fvar y → x ≡ y
same_variable x y e = cc

-- the variables of both sides, in order of first occurrence
abbrev pub rule_variables : Rule → List Var
rule_variables rule = with_variables rule.right (with_variables rule.left [])

module _ (d : Declarations) (good : IsGood d) (rule : Rule) (left_fits : Fits d rule.left) (right_fits : Fits d rule.right) where
  abbrev names : List Var
  names = rule_variables rule

  abbrev by : Renaming
  by = name_for 1 names

  named : (x : Var) → OccursInRule rule x → Contains names x
  named x (inl o) = listed_contains names x (still_listed rule.right (with_variables rule.left []) x (occurring_listed rule.left [] x o))
  named x (inr o) = listed_contains names x (occurring_listed rule.right (with_variables rule.left []) x o)

  module _ (next : ℕ) (apart : RenamesApart (Contains names) 1 next (value (renaming 1 names))) (fits : BindingsFit d (renaming 1 names)) where
    abbrev new_values : Var → FlatTerm
    new_values = value (renaming 1 names)

    -- what the variables go to
    values_are : new_values ≡ (λ x. fvar (by x))
    values_are i x = renamed_value 1 names x i

    instance_is : (t : FlatTerm) → inst d new_values t ≡ renamed_form d by t
    instance_is t = ap (λ s. eval d s (plain t)) values_are ∙ sym (eval_apply d fvar (λ x. var (by x)) (plain t))

    renamed_equal : (t : FlatTerm) → IsTerm d (plain t) → BEqual d (renamed by (plain t)) (plain (renamed_form d by t))
    renamed_equal t h =
        subst (λ w. BEqual d (renamed by (plain t)) (plain w)) (instance_is t)
        (subst (λ (s : Var → FlatTerm). BEqual d (apply (λ x. plain (s x)) (plain t)) (plain (inst d new_values t))) values_are (inst_equal d new_values good fits t h))

    distinct : (x y : Var) → Contains names x → Contains names y → by x ≡ by y → x ≡ y
    distinct x y i j e = apart.distinct x y i j (renamed_value 1 names x ∙ ap fvar e ∙ sym (renamed_value 1 names y))

    numbered : (y : Var) → Contains names y → IsNumberedUpTo next (by y)
    numbered y c =
        let f = apart.fresh y c in
        let is : by y ≡ fresh_for f.0 y = same_variable (by y) (fresh_for f.0 y) (sym (renamed_value 1 names y) ∙ f.1) in record {
          fresh = ap (λ (z : Var). z.fresh) is;
          low = subst (λ n. 1 ≤ n) (sym (ap (λ (z : Var). z.name) is)) f.2;
          high = subst (λ n. n < next) (sym (ap (λ (z : Var). z.name) is)) f.3;
        }

    -- what occurs in a renamed side
    side_numbered : (t : FlatTerm) → IsTerm d (plain t) → ((x : Var) → Occurs x (plain t) → OccursInRule rule x) → (y : Var) → Occurs y (plain (renamed_form d by t)) → IsNumberedUpTo next y
    side_numbered t h within y o =
        let p = occurs_value y (λ x. var (by x)) (plain t) (BEqual-occurs y d (renamed by (plain t)) (plain (renamed_form d by t)) (renamed_equal t h) o) in
        subst (IsNumberedUpTo next) (sym p.1.1) (numbered p.0 (named p.0 (within p.0 p.1.0)))

    is_renewed : (new : Rule) → new.left ≡ inst d new_values rule.left → new.right ≡ inst d new_values rule.right → new.equation ≡ rule.equation → 1 ≤ next → next ≤ FIRST_FRESH → IsRenewed d next rule new
    is_renewed new left right equation positive small = record {
      by = by;
      renames = record { one_to_one = λ x y i j e. distinct x y (named x i) (named y j) e; sorts = λ x i. name_sort 1 names x };
      left = left ∙ instance_is rule.left;
      right = right ∙ instance_is rule.right;
      equation = equation;
      numbers = numbers;
      positive = positive;
      small = small;
    }
      where
        numbers : (y : Var) → OccursInRule new y → IsNumberedUpTo next y
        numbers y (inl o) = side_numbered rule.left left_fits.kinded (λ x i. inl i) y (subst (λ t. Occurs y (plain t)) (left ∙ instance_is rule.left) o)
        numbers y (inr o) = side_numbered rule.right right_fits.kinded (λ x i. inr i) y (subst (λ t. Occurs y (plain t)) (right ∙ instance_is rule.right) o)

  -- the same of a list that is that of the variables
  pub renewed_by : (next : ℕ) (vars : List Var) → vars ≡ names → (s : Bindings) → s ≡ renaming 1 vars → RenamesApart (Contains vars) 1 next (value s) → BindingsFit d s →
      (new : Rule) → new.left ≡ inst d (value s) rule.left → new.right ≡ inst d (value s) rule.right → new.equation ≡ rule.equation → 1 ≤ next → next ≤ FIRST_FRESH → IsRenewed d next rule new
  renewed_by next vars e s made apart fits new left right equation positive small =
      let all : s ≡ renaming 1 names = made ∙ ap (renaming 1) e in
      is_renewed next (subst (λ l. RenamesApart (Contains l) 1 next (value (renaming 1 names))) e (subst (λ b. RenamesApart (Contains vars) 1 next (value b)) all apart)) (subst (BindingsFit d) all fits)
      new (left ∙ ap (λ b. inst d (value b) rule.left) all) (right ∙ ap (λ b. inst d (value b) rule.right) all) equation positive small
