-- A variant under a renaming to new variables is a start.
use Rattle.std.proofs.Common.{◌≡◌, ℕ, ◌≤◌, ◌<◌, List, [], ◌∷◌, map, refl, sym, ap, ◌∙◌, subst, inl, inr}
use Rattle.std.specs.Prelude.{All, Any, Contains}
use Rattle.std.proofs.lemmas.List.Elements.{All-contains, All-from_recursion}
use Rattle.fvn_base.specs.declared.limits.TheConstants.{FIRST_FRESH}
use Rattle.fvn_base.proofs.Membership.{map_contains}
use Rattle.fvn_terms.specs.declared.plain.Var.{Var}
use Rattle.fvn_terms.specs.declared.declarations.Declarations.{Declarations}
use Rattle.fvn_terms.specs.Term.{var}
use Rattle.fvn_terms.specs.Signature.{kind, IsSort, IsTerm}
use Rattle.fvn_terms.specs.Substitution.{apply, Occurs}
use Rattle.fvn_terms.specs.Equality.{BEqual}
use Rattle.fvn_terms.proofs.Equal.{BEqual-sym}
use Rattle.fvn_terms.proofs.Occurrences.{occurs_value, occurs_instance, BEqual-occurs}
use Rattle.fvn_forms.specs.Flat.{FlatTerm, fvar, plain}
use Rattle.fvn_forms.specs.Canon.{eval, inst}
use Rattle.fvn_forms.specs.Good.{IsGood}
use Rattle.fvn_forms.proofs.Eval.{eval_apply}
use Rattle.fvn_flat.specs.Bindings.{Bindings, form_or, value, BindingsFit}
use Rattle.fvn_flat.specs.Variables.{fresh_for, renaming, RenamesApart}
use Rattle.fvn_flat.specs.Drawn.{Renaming, renamed}
use Rattle.fvn_flat.specs.Fits.{Fits, AllFit}
use Rattle.fvn_flat.specs.Solving.{substitution}
use Rattle.fvn_flat.specs.Successors.{renamed_form, OccursIn}
use Rattle.fvn_flat.proofs.Instances.{inst_equal, inst_fits}
use Rattle.fvn_cover.specs.declared.variant.Variant.{Variant}
use Rattle.fvn_cover.specs.Covering.{IsFlatVariant}
use Rattle.fvn_exploring.specs.Children.{narrowed, HoldsVariables}
use Rattle.fvn_narrow_children.specs.Starts.{IsNumberedUpTo, IsStartOf}
use Rattle.fvn_narrow_children.specs.inner.Renaming.{value_variables, IsRenamedBy}
use Rattle.fvn_narrow_children.proofs.NewNames.{name_for, renamed_value, name_sort, listed_contains, occurring_in_values}

all_instances_fit : (d : Declarations) → IsGood d → (s : Var → FlatTerm) → ((t : FlatTerm) → Fits d t → Fits d (inst d s t)) → (l : List FlatTerm) → AllFit d l → AllFit d (map (inst d s) l)
all_instances_fit d good s fits [] h = tt
all_instances_fit d good s fits (t ∷ l) h = (fits t h.0, all_instances_fit d good s fits l h.1)

same_variable : (x y : Var) → fvar x ≡ fvar y → x ≡ y
same_variable x y e = cc

-- some member
any_member : (P : FlatTerm → Type 0) (l : List FlatTerm) → Any P l → (t : FlatTerm) × Contains l t × P t
any_member P l h = (h.1, (h.0, h.2, h.3), h.4)

any_here : (P : FlatTerm → Type 0) (l : List FlatTerm) (t : FlatTerm) → Contains l t → P t → Any P l
any_here P l t c p = (c.0, t, c.1, c.2, p)

any_mapped : (g : FlatTerm → FlatTerm) (P : FlatTerm → Type 0) (l : List FlatTerm) → Any P (map g l) → (t : FlatTerm) × Contains l t × P (g t)
any_mapped g P l h =
    let a = any_member P (map g l) h in
    let m = map_contains g l a.0 a.1 in
    (m.0, m.1.0, subst P (sym m.1.1) a.2)

fits_at : {d : Declarations} (l : List FlatTerm) (t : FlatTerm) → AllFit d l → Contains l t → Fits d t
fits_at {d} l t h c = All-contains (Fits d) l t (All-from_recursion (Fits d) l h) c

module _ (d : Declarations) (good : IsGood d) (v w : Variant) (flat : IsFlatVariant d v) (holds : HoldsVariables v) where
  abbrev names : List Var
  names = value_variables v.subst v.vars []

  abbrev by : Renaming
  by = name_for 1 names

  module _ (next : ℕ) (new : RenamesApart (Contains names) 1 next (value (renaming 1 names))) (fits : BindingsFit d (renaming 1 names)) (r : IsRenamedBy d (renaming 1 names) v w) (positive : 1 ≤ next) (small : next ≤ FIRST_FRESH) where
    abbrev new_values : Var → FlatTerm
    new_values = value (renaming 1 names)

    -- what the variables go to
    values_are : new_values ≡ (λ x. fvar (by x))
    values_are i x = renamed_value 1 names x i

    instance_is : (t : FlatTerm) → inst d new_values t ≡ renamed_form d by t
    instance_is t = ap (λ s. eval d s (plain t)) values_are ∙ sym (eval_apply d fvar (λ x. var (by x)) (plain t))

    terms_are : w.terms ≡ map (renamed_form d by) v.terms
    terms_are = r.terms ∙ ap (λ g. map g v.terms) (λ i t. instance_is t i)

    renamed_equal : (t : FlatTerm) → IsTerm d (plain t) → BEqual d (renamed by (plain t)) (plain (inst d new_values t))
    renamed_equal t h = subst (λ (s : Var → FlatTerm). BEqual d (apply (λ x. plain (s x)) (plain t)) (plain (inst d new_values t))) values_are (inst_equal d new_values good fits t h)

    -- the variables of the variant
    in_value : (x y : Var) → Contains v.vars x → Occurs y (substitution v.subst x) → Contains names y
    in_value x y c o = listed_contains names y (occurring_in_values v.subst v.vars [] x y c o)

    named : (y : Var) → OccursIn d v.vars (narrowed v) y → Contains names y
    named y (inl i) = let h = holds y i in in_value h.0 y h.1 h.2
    named y (inr h) = in_value h.0 y h.1 h.2

    apart : (x y : Var) → Contains names x → Contains names y → by x ≡ by y → x ≡ y
    apart x y i j e = new.distinct x y i j (renamed_value 1 names x ∙ ap fvar e ∙ sym (renamed_value 1 names y))

    value_of_kind : (x : Var) → Contains v.vars x → IsTerm d (substitution v.subst x)
    value_of_kind x c = (kind d x.sort, flat.values.keeps_kinds x (All-contains (λ (y : Var). IsSort d y.sort) v.vars x flat.vars c))

    values_equal : (x : Var) → Contains v.vars x → BEqual d (substitution w.subst x) (renamed by (substitution v.subst x))
    values_equal x c = BEqual-sym d (subst (λ t. BEqual d (renamed by (substitution v.subst x)) (plain t)) (sym (r.values.values x c)) (renamed_equal (value v.subst x) (value_of_kind x c)))

    -- what occurs in a renamed form
    occurs_before : (t : FlatTerm) (y : Var) → IsTerm d (plain t) → Occurs y (plain (inst d new_values t)) → (z : Var) × (Occurs z (plain t) × (y ≡ by z))
    occurs_before t y h o =
        let p = occurs_value y (λ x. var (by x)) (plain t) (BEqual-occurs y d (renamed by (plain t)) (plain (inst d new_values t)) (renamed_equal t h) o) in
        (p.0, (p.1.0, p.1.1))

    occurs_after : (t : FlatTerm) (z : Var) → IsTerm d (plain t) → Occurs z (plain t) → Occurs (by z) (plain (inst d new_values t))
    occurs_after t z h o =
        BEqual-occurs (by z) d (plain (inst d new_values t)) (renamed by (plain t)) (BEqual-sym d (renamed_equal t h)) (occurs_instance (by z) (λ x. var (by x)) (plain t) z o refl)

    value_before : (x y : Var) → Contains v.vars x → Occurs y (substitution w.subst x) → (z : Var) × (Occurs z (substitution v.subst x) × (y ≡ by z))
    value_before x y c o = occurs_before (value v.subst x) y (value_of_kind x c) (subst (λ t. Occurs y (plain t)) (r.values.values x c) o)

    value_after : (x z : Var) → Contains v.vars x → Occurs z (substitution v.subst x) → Occurs (by z) (substitution w.subst x)
    value_after x z c o = subst (λ t. Occurs (by z) (plain t)) (sym (r.values.values x c)) (occurs_after (value v.subst x) z (value_of_kind x c) o)

    holds_after : HoldsVariables w
    holds_after y i =
        let j : Any (λ t. Occurs y (plain t)) (map (inst d new_values) v.terms) = subst (Any (λ t. Occurs y (plain t))) r.terms i in
        let q = any_mapped (inst d new_values) (λ t. Occurs y (plain t)) v.terms j in
        let p = occurs_before q.0 y (term_of_kind q.0 q.1) q.2 in
        let h = holds p.0 (any_here (λ t. Occurs p.0 (plain t)) v.terms q.0 q.1 p.1.0) in
        (h.0, subst (λ l. Contains l h.0) (sym r.vars) h.1, subst (λ z. Occurs z (substitution w.subst h.0)) (sym p.1.1) (value_after h.0 p.0 h.1 h.2))
      where
        term_of_kind : (t : FlatTerm) → Contains v.terms t → IsTerm d (plain t)
        term_of_kind t c = (fits_at v.terms t flat.terms c).kinded

    numbered : (y : Var) → Contains names y → IsNumberedUpTo next (by y)
    numbered y c =
        let f = new.fresh y c in
        let is : by y ≡ fresh_for f.0 y = same_variable (by y) (fresh_for f.0 y) (sym (renamed_value 1 names y) ∙ f.1) in record {
          fresh = ap (λ (z : Var). z.fresh) is;
          low = subst (λ n. 1 ≤ n) (sym (ap (λ (z : Var). z.name) is)) f.2;
          high = subst (λ n. n < next) (sym (ap (λ (z : Var). z.name) is)) f.3;
        }

    numbers_after : (y : Var) → OccursIn d v.vars (narrowed w) y → IsNumberedUpTo next y
    numbers_after y (inr o) =
        let p = value_before o.0 y o.1 o.2 in
        subst (IsNumberedUpTo next) (sym p.1.1) (numbered p.0 (in_value o.0 p.0 o.1 p.1.0))
    numbers_after y (inl i) =
        let o = holds_after y i in
        let c = subst (λ l. Contains l o.0) r.vars o.1 in
        let p = value_before o.0 y c o.2 in
        subst (IsNumberedUpTo next) (sym p.1.1) (numbered p.0 (in_value o.0 p.0 c p.1.0))

    pub is_start : IsStartOf d next v w
    is_start = record {
      vars = r.vars;
      by = by;
      renames = record { one_to_one = λ x y i j e. apart x y (named x i) (named y j) e; sorts = λ x i. name_sort 1 names x };
      terms = terms_are;
      values = values_equal;
      flat = record {
        terms = subst (AllFit d) (sym r.terms) (all_instances_fit d good new_values (inst_fits d new_values good fits) v.terms flat.terms);
        values = r.values.fits;
        vars = subst (All (λ (x : Var). IsSort d x.sort)) (sym r.vars) flat.vars;
      };
      others = λ x n. ap (λ o. plain (form_or x o)) (r.values.others x n);
      holds = holds_after;
      numbers = numbers_after;
      positive = positive;
      small = small;
    }

  pub started : (next : ℕ) (vars : List Var) → vars ≡ names → (s : Bindings) → s ≡ renaming 1 vars → RenamesApart (Contains vars) 1 next (value s) → BindingsFit d s → IsRenamedBy d s v w → 1 ≤ next → next ≤ FIRST_FRESH → IsStartOf d next v w
  started next vars e s named new fits r positive small =
      let all : s ≡ renaming 1 names = named ∙ ap (renaming 1) e in
      is_start next (subst (λ l. RenamesApart (Contains l) 1 next (value (renaming 1 names))) e (subst (λ b. RenamesApart (Contains vars) 1 next (value b)) all new)) (subst (BindingsFit d) all fits) (subst (λ b. IsRenamedBy d b v w) all r) positive small
