-- The first variant of an exploration.
use Rattle.std.proofs.Common.{◌≡◌, ◌⊎◌, ℕ, ◌+◌, ◌<◌, ◌≤◌, Bool, true, false, List, [], ◌∷◌, ◌++◌, map, Some, refl, sym, ap, ◌∙◌, subst, inl, inr, arith}
use Rattle.std.specs.Prelude.{if◌then◌else◌, All, Any, Contains}
use Rattle.std.specs.List.{AllZip}
use Rattle.std.proofs.lemmas.Bool.{or_parts}
use Rattle.std.proofs.lemmas.List.Elements.{All-contains, Contains-push_cases}
use Rattle.fvn_base.specs.declared.limits.TheConstants.{EXPANDED_FRESH}
use Rattle.fvn_base.proofs.Membership.{contains_here, contains_later, contains_cases, contains_none, contains_map, map_contains}
use Rattle.fvn_terms.specs.declared.plain.Var.{Var}
use Rattle.fvn_terms.specs.Term.{Term, var}
use Rattle.fvn_terms.specs.Substitution.{Substitution, same_var, apply, followed_by, Occurs, OccursAmong}
use Rattle.fvn_terms.specs.Signature.{IsSort, kind, IsTerm}
use Rattle.fvn_terms.specs.Places.{stop}
use Rattle.fvn_terms.specs.Equality.{BEqual}
use Rattle.fvn_terms.specs.Sorts.{HasSort, IsWellSorted}
use Rattle.fvn_terms.specs.Rewriting.{IsIrreducible}
use Rattle.fvn_terms.specs.Variants.{OccursInSome}
use Rattle.fvn_terms.proofs.Substitutions.{apply-apply, apply-var, apply-agree}
use Rattle.fvn_terms.proofs.Occurrences.{occurs_value, BEqual-occurs}
use Rattle.fvn_forms.specs.Flat.{FlatTerm, FlatTerms, fvar, fapp, fnone, fmore, fpack, plain, plain_all}
use Rattle.fvn_flat.specs.Bindings.{bound, form_or, value, BindingsFit}
use Rattle.fvn_flat.specs.Drawn.{Renaming, OccursInValues, IsOneToOne}
use Rattle.fvn_flat.specs.Fits.{AllFit}
use Rattle.fvn_flat.specs.Solving.{substitution}
use Rattle.fvn_flat.specs.Variables.{listed, with_variable, with_variables, with_all_variables, fresh_for, renaming, RenamesApart}
use Rattle.fvn_flat.proofs.Occurrences.{occurs_in_app}
use Rattle.fvn_flat.proofs.ListedVariables.{still_all_listed, occurring_listed, with_all_distinct, distinct_pairs}
use Rattle.fvn_rewrite_laws.specs.Lists.{EachHasSequence}
use Rattle.fvn_rewrite_laws.proofs.Choosing.{occurring_sort}
use Rattle.fvn_rewrite_laws.proofs.Listing.{var_listed, listed_var}
use Rattle.fvn_cover.specs.declared.variant.Variant.{Variant}
use Rattle.fvn_exploring.specs.Setting.{Setting}
use Rattle.fvn_exploring.specs.Children.{IsMember}
use Rattle.fvn_exploring.specs.LevelRuns.{AreVariablesOf, IsStart}
use Rattle.fvn_closure.specs.Closing.{IsExplorable}
use Rattle.fvn_closure.proofs.Known.{IsKnown}
use Rattle.fvn_closure.proofs.Renamings.{variable_of_sort, variable_of_kind}
use Rattle.fvn_closure.proofs.Starting.{back, back_renamed, back_sorted}
use Rattle.fvn_fold.specs.inner.Beginning.{variables_of_forms, IsRenamedForm}
use Rattle.fvn_fold.proofs.Gathers.{all_members, any_member, member_of_any, beside_second}

-- a variable of one of the forms is listed
occurring : (ts : List FlatTerm) (vars : List Var) (t : FlatTerm) (x : Var) → Contains ts t → Occurs x (plain t) → listed (with_all_variables (fpack ts) vars) x ≡ true
occurring [] vars t x m o = absurd (contains_none t m)
occurring (u ∷ ts) vars t x m o = go (contains_cases u ts t m) (λ i. occurring ts (with_variables u vars) t x i o) where
  go : (u ≡ t) ⊎ Contains ts t → (Contains ts t → listed (with_all_variables (fpack ts) (with_variables u vars)) x ≡ true) → listed (with_all_variables (fpack ts) (with_variables u vars)) x ≡ true
  go (inl e) later = still_all_listed (fpack ts) (with_variables u vars) x (occurring_listed u vars x (subst (λ w. Occurs x (plain w)) (sym e) o))
  go (inr i) later = later i

-- and no others are
only_one : (vars : List Var) (y x : Var) → Contains (with_variable vars y) x → Contains vars x ⊎ (x ≡ y)
only_one vars y x h = go (listed vars y) h where
  go : (b : Bool) → Contains (if b then vars else vars ++ y ∷ []) x → Contains vars x ⊎ (x ≡ y)
  go true c = inl c
  go false c = elim (Contains-push_cases vars y x c) as (λ _. Contains vars x ⊎ (x ≡ y)) [ inl i ↦ inl i | inr e ↦ inr (sym e) ]

mutual
  only_occurring : (t : FlatTerm) (vars : List Var) (x : Var) → Contains (with_variables t vars) x → Contains vars x ⊎ Occurs x (plain t)
  only_occurring (fvar y) vars x h = only_one vars y x h
  only_occurring (fapp f joined ts) vars x h = elim (only_among ts vars x h) as (λ _. Contains vars x ⊎ Occurs x (plain (fapp f joined ts))) [ inl i ↦ inl i | inr o ↦ inr ((occurs_in_app x f joined ts).1 o) ]

  only_among : (ts : FlatTerms) (vars : List Var) (x : Var) → Contains (with_all_variables ts vars) x → Contains vars x ⊎ OccursAmong x (plain_all ts)
  only_among fnone vars x h = inl h
  only_among (fmore t ts) vars x h = elim (only_among ts (with_variables t vars) x h) as (λ _. Contains vars x ⊎ OccursAmong x (plain_all (fmore t ts))) [
    | inl i ↦ elim (only_occurring t vars x i) as (λ _. Contains vars x ⊎ OccursAmong x (plain_all (fmore t ts))) [ inl j ↦ inl j | inr o ↦ inr (inl o) ]
    | inr o ↦ inr (inr o)
  ]

some_form : (ts : List FlatTerm) (x : Var) → OccursAmong x (plain_all (fpack ts)) → (t : FlatTerm) × (Contains ts t × Occurs x (plain t))
some_form [] x o = absurd o
some_form (t ∷ ts) x (inl o) = (t, (contains_here t ts, o))
some_form (t ∷ ts) x (inr o) = let w = some_form ts x o in (w.0, (contains_later t ts w.0 w.1.0, w.1.1))

-- the list has the variables of the start
pub start_variables : (start : List FlatTerm) → AreVariablesOf start (variables_of_forms start)
start_variables start = record { all = λ x. (there x, back_there x); once = distinct_pairs (variables_of_forms start) (with_all_distinct (fpack start) [] tt) } where
  there : (x : Var) → Contains (variables_of_forms start) x → OccursInSome x (map plain start)
  there x h = go (only_among (fpack start) [] x h) where
    go : Contains [] x ⊎ OccursAmong x (plain_all (fpack start)) → OccursInSome x (map plain start)
    go (inl i) = absurd (contains_none x i)
    go (inr o) = let w = some_form start x o in any_member (Occurs x) (map plain start) (plain w.0) (contains_map plain start w.0 w.1.0) w.1.1

  back_there : (x : Var) → OccursInSome x (map plain start) → Contains (variables_of_forms start) x
  back_there x h =
      let t = member_of_any (Occurs x) (map plain start) h in
      let u = map_contains plain start t.0 t.1.0 in
      var_listed (variables_of_forms start) x (occurring start [] u.0 x u.1.0 (subst (Occurs x) (sym u.1.1) t.1.1))

-- other variables stay
others_stay : (n : ℕ) (vars : List Var) (x : Var) → listed vars x ≡ false → value (renaming n vars) x ≡ fvar x
others_stay n [] x e = refl
others_stay n (y ∷ vars) x e =
    let both = or_parts (same_var y x) (listed vars x) e in
    ap (λ b. form_or x (if b then Some (fvar (fresh_for n y)) else bound (renaming (n + 1) vars) x)) both.0 ∙ others_stay (n + 1) vars x both.1

-- the variable that a form is
abbrev name_or : Var → FlatTerm → Var
name_or x (fvar y) = y
name_or x (fapp f joined ts) = x

module _ (g : Setting) (start : List FlatTerm) (explorable : IsExplorable g start) (known : IsKnown g.declarations g.equations) (irreducible : All (IsIrreducible g.declarations g.equations) g.fixed)
    (v : Variant) (is_vars : v.vars ≡ variables_of_forms start) (is_subst : v.subst ≡ renaming 0 v.vars) (fit : BindingsFit g.declarations v.subst) (next : ℕ)
    (apart : RenamesApart (Contains v.vars) 0 next (value v.subst)) (few : next ≤ EXPANDED_FRESH) (forms : AllZip (IsRenamedForm g v.subst) start v.terms) where
  abbrev s : Substitution
  s = substitution v.subst

  abbrev by : Renaming
  by x = name_or x (value v.subst x)

  vars : AreVariablesOf start v.vars
  vars = subst (AreVariablesOf start) (sym is_vars) (start_variables start)

  is_name : (x : Var) (m : Contains v.vars x) → by x ≡ fresh_for (apart.fresh x m).0 x
  is_name x m = ap (name_or x) (apart.fresh x m).1

  renamed : (x : Var) → Contains v.vars x → value v.subst x ≡ fvar (by x)
  renamed x m = (apart.fresh x m).1 ∙ ap fvar (sym (is_name x m))

  sorts : (x : Var) → Contains v.vars x → (by x).sort ≡ x.sort
  sorts x m = ap (λ (y : Var). y.sort) (is_name x m)

  one_to_one : IsOneToOne (Contains v.vars) by
  one_to_one x y m n e = apart.distinct x y m n (renamed x m ∙ ap fvar e ∙ sym (renamed y n))

  others : (x : Var) → (Contains v.vars x → ⊥) → s x ≡ var x
  others x n = ap plain (ap (λ b. value b x) is_subst ∙ others_stay 0 v.vars x (go (listed v.vars x) refl)) where
    go : (b : Bool) → listed v.vars x ≡ b → listed v.vars x ≡ false
    go true e = absurd (n (var_listed v.vars x e))
    go false e = e

  sorted : IsWellSorted g.declarations s
  sorted = (fit.keeps_kinds, λ x. go x (listed v.vars x) refl) where
    go : (x : Var) → (b : Bool) → listed v.vars x ≡ b → HasSort g.declarations (s x) x.sort
    go x true e = let m = var_listed v.vars x e in subst (λ t. HasSort g.declarations t x.sort) (ap plain (sym (renamed x m))) (variable_of_sort g.declarations x (by x) (sorts x m))
    go x false e = subst (λ t. HasSort g.declarations t x.sort) (sym (others x (λ m. absurd (let f : true ≡ false = sym (listed_var v.vars x m) ∙ e in cc)))) (variable_of_sort g.declarations x x refl)

  -- sequences lead to the renamed normal forms
  sequences : (ts us : List FlatTerm) → AllZip (IsRenamedForm g v.subst) ts us → (k : ℕ) × EachHasSequence g.declarations g.equations k (map (apply s) (map plain ts)) (map plain us)
  sequences [] [] h = (0, refl)
  sequences [] (u ∷ us) h = absurd h
  sequences (t ∷ ts) [] h = absurd h
  sequences (t ∷ ts) (u ∷ us) h =
      let f = h.0 in
      let r = f.is_form.reached in
      let rest = sequences ts us h.1 in
      let moved = known.rewriting.sequences s sorted r.count (plain t) (plain f.form) r.reached.sequence in
      (r.count + rest.0, (r.count, rest.0, refl, (known.sequences.after r.count (apply s (plain t)) (apply s (plain f.form)) (plain u) moved f.renamed, rest.1)))

  -- a form of the start for each term
  form_of : (ts us : List FlatTerm) → AllZip (IsRenamedForm g v.subst) ts us → (u : FlatTerm) → Contains us u → (t : FlatTerm) × (Contains ts t × IsRenamedForm g v.subst t u)
  form_of ts us h u m = beside_second (IsRenamedForm g v.subst) ts us h u m

  listed_in : (t : FlatTerm) → Contains start t → (x : Var) → Occurs x (plain t) → Contains v.vars x
  listed_in t m x o = (vars.all x).1 (any_member (Occurs x) (map plain start) (plain t) (contains_map plain start t m) o)

  form_variables : (t u : FlatTerm) → Contains start t → (f : IsRenamedForm g v.subst t u) → (x : Var) → Occurs x (plain f.form) → Contains v.vars x
  form_variables t u m f x o = let r = f.is_form.reached in listed_in t m x (known.rewriting.variables explorable.lawful.brings_none x r.count (plain t) (plain f.form) r.reached.sequence o)

  -- back again
  abbrev home : Substitution
  home = back by var v.vars

  var_sorted : IsWellSorted g.declarations var
  var_sorted = (λ x i. (i, refl), λ x. variable_of_sort g.declarations x x refl)

  home_sorted : IsWellSorted g.declarations home
  home_sorted = back_sorted by var v.vars one_to_one g.declarations var_sorted sorts

  home_again : (t : Term) → ((x : Var) → Occurs x t → Contains v.vars x) → apply home (apply s t) ≡ t
  home_again t h = apply-apply s home t ∙ apply-agree (followed_by s home) var t (λ x o.
      ap (λ u. apply home (plain u)) (renamed x (h x o)) ∙ back_renamed by var v.vars one_to_one v.vars (λ y j. j) x (h x o)) ∙ apply-var t

  irreducible_term : (t u : FlatTerm) → Contains start t → IsRenamedForm g v.subst t u → IsIrreducible g.declarations g.equations (plain u)
  irreducible_term t u m f =
      known.sequences.irreducible (apply s (plain f.form)) (plain u) f.renamed
      (known.sequences.taken_back s home home_sorted (plain f.form) (subst (λ w. BEqual g.declarations w (plain f.form)) (sym (home_again (plain f.form) (form_variables t u m f))) stop) f.is_form.irreducible)

  term_irreducible : (u : FlatTerm) → Contains v.terms u → IsIrreducible g.declarations g.equations (plain u)
  term_irreducible u m = let w = form_of start v.terms forms u m in irreducible_term w.0 u w.1.0 w.1.1

  sort_known : (x : Var) → Contains v.vars x → IsSort g.declarations x.sort
  sort_known x m =
      let t = member_of_any (Occurs x) (map plain start) ((vars.all x).0 m) in
      let u = map_contains plain start t.0 t.1.0 in
      let k = fit_at start explorable.fits u.0 u.1.0 in
      occurring_sort g.declarations x (plain u.0) k.0 k.1 (subst (Occurs x) (sym u.1.1) t.1.1)
    where
      fit_at : (ts : List FlatTerm) → AllFit g.declarations ts → (t : FlatTerm) → Contains ts t → IsTerm g.declarations (plain t)
      fit_at [] h t m = absurd (contains_none t m)
      fit_at (z ∷ ts) h t m = here z ts t h (contains_cases z ts t m) (fit_at ts h.1 t)
        where
          here : (z : FlatTerm) (ts : List FlatTerm) (t : FlatTerm) → AllFit g.declarations (z ∷ ts) → (z ≡ t) ⊎ Contains ts t → (Contains ts t → IsTerm g.declarations (plain t)) → IsTerm g.declarations (plain t)
          here z ts t h (inl e) later = subst (λ w. IsTerm g.declarations (plain w)) e (h.0).kinded
          here z ts t h (inr i) later = later i

  -- each variable of a term stands in the value of one
  holds : (y : Var) → Any (λ t. Occurs y (plain t)) v.terms → OccursInValues v.vars s y
  holds y h =
      let u = member_of_any (λ t. Occurs y (plain t)) v.terms h in
      let w = form_of start v.terms forms u.0 u.1.0 in
      let f = w.1.1 in
      let z = occurs_value y s (plain f.form) (BEqual-occurs y g.declarations (apply s (plain f.form)) (plain u.0) f.renamed u.1.1) in
      (z.0, form_variables w.0 u.0 w.1.0 f z.0 z.1.0, z.1.1)

  numbered : (y : Var) → OccursInValues v.vars s y → y.name < EXPANDED_FRESH
  numbered y h =
      let x = h.0 in
      let n = apart.fresh x h.1 in
      let e : y ≡ fresh_for n.0 x = subst (λ t. Occurs y (plain t)) n.1 h.2 in
      let name : y.name ≡ n.0 = ap (λ (z : Var). z.name) e in
      let high : n.0 < next = n.3 in
      omega (arith, name, high, few)

  terms_fit : (ts us : List FlatTerm) → AllZip (IsRenamedForm g v.subst) ts us → AllFit g.declarations us
  terms_fit [] [] h = tt
  terms_fit [] (u ∷ us) h = absurd h
  terms_fit (t ∷ ts) [] h = absurd h
  terms_fit (t ∷ ts) (u ∷ us) h = ((h.0).fits, terms_fit ts us h.1)

  -- the fixed terms with all variables renamed are irreducible as they were
  stays : (t : Term) → Contains g.fixed t → IsIrreducible g.declarations g.equations (apply s t)
  stays t m =
      let over : (x : Var) → Occurs x t → Contains v.vars x =
      λ x o. (vars.all x).1 (All-contains (λ u. (y : Var) → Occurs y u → OccursInSome y (map plain start)) g.fixed t explorable.fixed m x o) in
      known.sequences.taken_back s home home_sorted t (subst (λ w. BEqual g.declarations w t) (sym (home_again t over)) stop)
      (All-contains (IsIrreducible g.declarations g.equations) g.fixed t irreducible m)

  member : IsMember g v
  member = record {
    flat = record { terms = terms_fit start v.terms forms; values = fit; vars = all_members (λ x. IsSort g.declarations x.sort) v.vars sort_known };
    holds = holds;
    others = others;
    numbers = λ y h f. number y h;
    terms = (known.rewriting.lists (map plain v.terms)).1 (all_members (IsIrreducible g.declarations g.equations) (map plain v.terms) (λ t m.
        let u = map_contains plain v.terms t m in subst (IsIrreducible g.declarations g.equations) u.1.1 (term_irreducible u.0 u.1.0)));
    values = λ x m. subst (IsIrreducible g.declarations g.equations) (ap plain (sym (renamed x m)))
        (explorable.lawful.variables (by x) (kind g.declarations x.sort, variable_of_kind g.declarations x (by x) (sorts x m) (sort_known x m)));
    stay = all_members (λ t. IsIrreducible g.declarations g.equations (apply s t)) g.fixed stays;
  } where
    number : (y : Var) → Any (λ t. Occurs y (plain t)) v.terms ⊎ OccursInValues v.vars s y → y.name < EXPANDED_FRESH
    number y (inl o) = numbered y (holds y o)
    number y (inr o) = numbered y o

  pub first_start : IsStart g start v
  first_start =
      let q = sequences start v.terms forms in
      record {
        vars = vars;
        by = by;
        renames = record { one_to_one = one_to_one; sorts = sorts };
        fresh = λ x m. ap (λ (y : Var). y.fresh) (is_name x m);
        renamed = λ x m. ap plain (renamed x m);
        steps = q.0;
        reached = (known.lists.members q.0 (map (apply s) (map plain start)) (map plain v.terms)).1 q.1;
        member = member;
      }
