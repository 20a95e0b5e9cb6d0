-- The pairs of a variant with new names may be given to a solver, and are posed for it.
use Rattle.std.proofs.Common.{◌≡◌, ◌<◌, ◌⊎◌, ℕ, List, [], ◌∷◌, ◌++◌, map, refl, sym, ◌∙◌, subst, inl, inr}
use Rattle.std.specs.Prelude.{All, Contains}
use Rattle.std.proofs.lemmas.List.Elements.{All-nil, All-cons, All-head, All-tail, Contains-append_cases}
use Rattle.fvn_base.proofs.Membership.{contains_here, contains_later, contains_cases, contains_none, map_contains}
use Rattle.fvn_terms.specs.declared.plain.Var.{Var}
use Rattle.fvn_terms.specs.declared.plain.SortId.{SortId}
use Rattle.fvn_terms.specs.declared.declarations.Declarations.{Declarations}
use Rattle.fvn_terms.specs.Term.{Term, var}
use Rattle.fvn_terms.specs.Substitution.{Occurs}
use Rattle.fvn_terms.specs.Signature.{kind, IsSort, HasKind, IsTerm, KeepsKinds}
use Rattle.fvn_terms.specs.Places.{stop}
use Rattle.fvn_terms.specs.Equality.{BEqual}
use Rattle.fvn_terms.proofs.Equal.{HasKind-apply}
use Rattle.fvn_terms.proofs.Occurrences.{occurs_value, BEqual-occurs}
use Rattle.fvn_forms.specs.Flat.{FlatTerm, fvar, plain}
use Rattle.fvn_forms.specs.Canon.{eval, inst}
use Rattle.fvn_forms.specs.Good.{IsGood}
use Rattle.fvn_forms.proofs.Eval.{eval_apply}
use Rattle.fvn_forms.proofs.ToCanon.{to_canon, canon_of_kind}
use Rattle.fvn_forms.proofs.Eval.{canon_settled}
use Rattle.fvn_flat.specs.Bindings.{Bindings, value}
use Rattle.fvn_flat.specs.Drawn.{renamed}
use Rattle.fvn_flat.specs.Fits.{Fits, AllFit}
use Rattle.fvn_flat.specs.Problems.{variables, variables_of, plain_pairs, IsProblem}
use Rattle.fvn_flat.specs.Solving.{IsGiven, substitution, problem_of}
use Rattle.fvn_flat.specs.Successors.{Narrowed, renamed_form, OccursIn, IsRenamed}
use Rattle.fvn_flat.specs.declared.solver.Pairs.{Pairs}
use Rattle.fvn_flat.proofs.VariableLists.{variables_occur}
use Rattle.fvn_cover.specs.declared.variant.Variant.{Variant}
use Rattle.fvn_exploring.specs.Setting.{Setting}
use Rattle.fvn_exploring.specs.Children.{narrowed}
use Rattle.fvn_vunify.specs.Sides.{two_by_two, problem_over}
use Rattle.fvn_vunify.specs.Causes.{IsPairsProblem}
use Rattle.fvn_vunify.specs.inner.Names.{AreFreshNames}
use Rattle.fvn_vunify.specs.inner.Attempts.{IsSolvable}
use Rattle.fvn_vunify.proofs.IrreducibleValues.{OfOneKind}
use Rattle.fvn_vunify.proofs.NewNames.{name_of, named, name_sort, name_one_to_one, name_is_fresh}

-- the variable stands in one of the forms
abbrev pub HasIn : Var → List FlatTerm → Type 0
HasIn x l = (t : FlatTerm) × (Contains l t × Occurs x (plain t))

-- a variable of forms two by two stands in one of them
pub occurs_over : (ts : List FlatTerm) (x : Var) → Contains (variables_of (problem_over ts)) x → HasIn x ts
occurs_over [] x m = absurd (contains_none x m)
occurs_over (t ∷ []) x m = absurd (contains_none x m)
occurs_over (t ∷ u ∷ ts) x m = go (Contains-append_cases (variables (plain t) ++ variables (plain u)) (variables_of (problem_over ts)) x m) (occurs_over ts x) where
  side : Contains (variables (plain t)) x ⊎ Contains (variables (plain u)) x → HasIn x (t ∷ u ∷ ts)
  side (inl a) = (t, (contains_here t (u ∷ ts), variables_occur x (plain t) a))
  side (inr b) = (u, (contains_later t (u ∷ ts) u (contains_here u ts), variables_occur x (plain u) b))

  go : Contains (variables (plain t) ++ variables (plain u)) x ⊎ Contains (variables_of (problem_over ts)) x → (Contains (variables_of (problem_over ts)) x → HasIn x ts) → HasIn x (t ∷ u ∷ ts)
  go (inl pair) later = side (Contains-append_cases (variables (plain t)) (variables (plain u)) x pair)
  go (inr rest) later = let w = later rest in (w.0, (contains_later t (u ∷ ts) w.0 (contains_later u ts w.0 w.1.0), w.1.1))

abbrev BothFit : Declarations → FlatTerm × FlatTerm → Type 0
BothFit d p = Fits d p.0 × Fits d p.1

-- one by one, then two by two
pub all_fit_two : (d : Declarations) (ts : List FlatTerm) → AllFit d ts → All (BothFit d) (two_by_two ts)
all_fit_two d [] h = All-nil (BothFit d)
all_fit_two d (t ∷ []) h = All-nil (BothFit d)
all_fit_two d (t ∷ u ∷ ts) h = All-cons (BothFit d) (t, u) (two_by_two ts) (h.0, h.1.0) (all_fit_two d ts h.1.1)

pub fits_in : (d : Declarations) (ts : List FlatTerm) → AllFit d ts → (t : FlatTerm) → Contains ts t → Fits d t
fits_in d [] h t m = absurd (contains_none t m)
fits_in d (u ∷ ts) h t m = elim (contains_cases u ts t m) as (λ _. Fits d t) [ inl e ↦ subst (Fits d) e h.0 | inr i ↦ fits_in d ts h.1 t i ]

module _ (g : Setting) (good : IsGood g.declarations) (vars : List Var) (v : Variant) (solvable : IsSolvable g vars v)
    (names : Bindings) (next : ℕ) (fresh : AreFreshNames v names next) where
  abbrev to : Var → Var
  to = name_of v names next fresh

  abbrev d : Declarations
  d = g.declarations

  -- the new names as a substitution
  pub names_keep_kinds : KeepsKinds d (λ x. var (to x))
  names_keep_kinds x i = subst (λ s. IsSort d s × (kind d s ≡ kind d x.sort)) (sym (name_sort v names next fresh x)) (i, refl)

  -- an instance by the new names is the renamed form
  pub inst_is_renamed : (t : FlatTerm) → inst d (value names) t ≡ renamed_form d to t
  inst_is_renamed t = (λ i. eval d (λ x. named v names next fresh x i) (plain t)) ∙ sym (eval_apply d fvar (λ x. var (to x)) (plain t))

  pub renamed_kind : (t : Term) (k : SortId) → HasKind d t k → HasKind d (renamed to t) k
  renamed_kind t k h = HasKind-apply d (λ x. var (to x)) names_keep_kinds t k h

  -- it is equal modulo the axioms to the renamed term
  pub renamed_equal : (t : FlatTerm) → IsTerm d (plain t) → BEqual d (renamed to (plain t)) (plain (renamed_form d to t))
  renamed_equal t h = to_canon d good.fits (renamed to (plain t)) h.0 (renamed_kind (plain t) h.0 h.1)

  pub renamed_term : (t : FlatTerm) → IsTerm d (plain t) → IsTerm d (plain (renamed_form d to t))
  renamed_term t h = (h.0, canon_of_kind d good.fits (renamed to (plain t)) h.0 (renamed_kind (plain t) h.0 h.1))

  renamed_fits : (ts : List FlatTerm) → AllFit d ts → AllFit d (map (renamed_form d to) ts)
  renamed_fits [] h = tt
  renamed_fits (t ∷ ts) h =
      let k = h.0.kinded in (
        record { flat = canon_settled d (renamed to (plain t)); kinded = (k.0, canon_of_kind d good.fits (renamed to (plain t)) k.0 (renamed_kind (plain t) k.0 k.1)) },
        renamed_fits ts h.1,
      )

  renamed_problem_kinds : (ts : List FlatTerm) → IsProblem d (problem_over ts) → IsProblem d (problem_over (map (renamed_form d to) ts))
  renamed_problem_kinds [] h = All-nil (OfOneKind d)
  renamed_problem_kinds (t ∷ []) h = All-nil (OfOneKind d)
  renamed_problem_kinds (t ∷ u ∷ ts) h =
      let k = All-head (OfOneKind d) (plain t, plain u) (problem_over ts) h in
      All-cons (OfOneKind d) (plain (renamed_form d to t), plain (renamed_form d to u)) (problem_over (map (renamed_form d to) ts)) (
        k.0,
        canon_of_kind d good.fits (renamed to (plain t)) k.0 (renamed_kind (plain t) k.0 k.1),
        canon_of_kind d good.fits (renamed to (plain u)) k.0 (renamed_kind (plain u) k.0 k.2),
      )
      (renamed_problem_kinds ts (All-tail (OfOneKind d) (plain t, plain u) (problem_over ts) h))

  -- the variant with new names
  abbrev pub with_names : Narrowed
  with_names = record { terms = map (renamed_form d to) v.terms; values = λ x. renamed to (substitution v.subst x) }

  pub held : (x : Var) → OccursIn d v.vars (narrowed v) x → Contains fresh.vars x
  held x (inl a) = fresh.held x (solvable.holds x a)
  held x (inr o) = fresh.held x o

  pub renamed_before : IsRenamed d v.vars (narrowed v) with_names
  renamed_before = record {
    by = to;
    renames = record { one_to_one = λ x y m n. name_one_to_one v names next fresh x y (held x m) (held y n); sorts = λ x m. name_sort v names next fresh x };
    terms = refl;
    values = λ x m. stop;
  }

  -- a variable of it is the new name of one of the variant
  pub named_by : (x : Var) → OccursIn d v.vars with_names x → (y : Var) × (Contains fresh.vars y × (x ≡ to y))
  named_by x (inl (k, t, l, e, o)) =
      let w = map_contains (renamed_form d to) v.terms t (k, l, e) in
      let kinded = (fits_in d v.terms solvable.flat.terms w.0 w.1.0).kinded in
      let there : Occurs x (plain (renamed_form d to w.0)) = subst (λ (u : FlatTerm). Occurs x (plain u)) (sym w.1.1) o in
      let y = occurs_value x (λ z. var (to z)) (plain w.0) (BEqual-occurs x d (renamed to (plain w.0)) (plain (renamed_form d to w.0)) (renamed_equal w.0 kinded) there) in
      (y.0, (held y.0 (inl (w.1.0.0, w.0, w.1.0.1, w.1.0.2, y.1.0)), y.1.1))
  named_by x (inr o) =
      let y = occurs_value x (λ z. var (to z)) (substitution v.subst o.0) o.2 in
      (y.0, (held y.0 (inr (o.0, o.1, y.1.0)), y.1.1))

  module _ (given : Pairs) (is : given.pairs ≡ two_by_two (map (inst d (value names)) v.terms)) where
    pub is_renamed : given.pairs ≡ two_by_two with_names.terms
    is_renamed = is ∙ (λ i. two_by_two (map (λ t. inst_is_renamed t i) v.terms))

    pub posed : IsPairsProblem g v given
    posed = record { from = with_names; renamed_before = renamed_before; is = is_renamed }

    -- a variable of the problem is the new name of one of the variant
    pub variable_named : (x : Var) → Contains (variables_of (problem_of given)) x → (y : Var) × (Contains fresh.vars y × (x ≡ to y))
    variable_named x m =
        let w = occurs_over with_names.terms x (subst (λ ps. Contains (variables_of (plain_pairs ps)) x) is_renamed m) in
        named_by x (inl (w.1.0.0, w.0, w.1.0.1, w.1.0.2, w.1.1))

    pub is_given : IsGiven d given next
    is_given = record {
      fit = subst (All (BothFit d)) (sym is_renamed) (all_fit_two d with_names.terms (renamed_fits v.terms solvable.flat.terms));
      kinds = subst (λ ps. IsProblem d (plain_pairs ps)) (sym is_renamed) (renamed_problem_kinds v.terms solvable.kinds);
      numbers = λ x m f. let y = variable_named x m in subst (λ (z : Var). z.name < next) (sym y.1.1) (name_is_fresh v names next fresh y.0 y.1.0).1;
      small = fresh.small;
    }
