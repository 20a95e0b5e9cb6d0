-- Substitutions at the sorts of a row.
use Rattle.std.proofs.Common.{◌≡◌, ◌⊎◌, Bool, true, false, List, [], ◌∷◌, ◌++◌, length, Option, Some, None, refl, sym, ap, ◌∙◌, subst, inl, inr, arith}
use Rattle.std.specs.Option.{option_map, is_some}
use Rattle.std.specs.Prelude.{◌||◌, if◌then◌else◌}
use Rattle.std.proofs.lemmas.Bool.{true≢false, false≢true}
use Rattle.fvn_terms.specs.declared.plain.Var.{Var}
use Rattle.fvn_terms.specs.declared.plain.SortId.{SortId}
use Rattle.fvn_terms.specs.declared.declarations.Declarations.{Declarations}
use Rattle.fvn_terms.specs.Term.{Term, Terms, var, app, none, more}
use Rattle.fvn_terms.specs.Signature.{kind, IsSort}
use Rattle.fvn_terms.specs.Substitution.{same_var, Occurs, OccursAmong}
use Rattle.fvn_forms.specs.Flat.{FlatTerm, fvar, plain}
use Rattle.fvn_forms.specs.Canon.{build, eval, eval_all, inst}
use Rattle.fvn_flat.specs.Bindings.{Bindings, bound, form_or, value, BindingsFit, changed}
use Rattle.fvn_flat.specs.Variables.{listed}
use Rattle.fvn_flat.proofs.Binding.{same_var_is, or_else, bound-append, bound_first}
use Rattle.fvn_flat.proofs.Composing.{bound-changed, bind_fits, empty_fits}
use Rattle.fvn_refine.specs.Refinements.{at_sort, variables_of_terms, IsAtSorts}
use Rattle.fvn_refine.specs.inner.Rows.{Row, beside, way_of, IsRow}
use Rattle.fvn_refine.specs.inner.Resorting.{with_resorted, with_all_resorted, resorting}
use Rattle.fvn_refine.proofs.VariablesListed.{occurs_in_terms}
use Rattle.fvn_refine.proofs.Ways.{row_long}

-- what is not some is none
pub unbound : (o : Option FlatTerm) → is_some o ≡ false → o ≡ None
unbound None e = refl
unbound (Some t) e = absurd (true≢false e)

-- the form of a variable at a sort
abbrev there : Var → SortId → FlatTerm
there y w = fvar (record { name = y.name; sort = w; fresh = y.fresh })

none_after : (o : Option FlatTerm) → or_else o None ≡ o
none_after None = refl
none_after (Some t) = refl

resorted_kept : (s : Bindings) (x y : Var) (w : SortId) (t : FlatTerm) → bound s y ≡ Some t → bound (with_resorted s x w) y ≡ Some t
resorted_kept s x y w t e = go (is_some (bound s x))
  where
    go : (b : Bool) → bound (if b then s else s ++ (x, there x w) ∷ []) y ≡ Some t
    go true = e
    go false = bound-append s ((x, there x w) ∷ []) y ∙ ap (λ o. or_else o (bound ((x, there x w) ∷ []) y)) e

resorted_same : (s : Bindings) (x : Var) (w : SortId) → bound s x ≡ None → bound (with_resorted s x w) x ≡ Some (there x w)
resorted_same s x w e =
    ap (λ o. bound (if is_some o then s else s ++ (x, there x w) ∷ []) x) e
    ∙ bound-append s ((x, there x w) ∷ []) x ∙ ap (λ o. or_else o (bound ((x, there x w) ∷ []) x)) e ∙ bound_first (x, there x w) []

resorted_other : (s : Bindings) (x y : Var) (w : SortId) → same_var x y ≡ false → bound (with_resorted s x w) y ≡ bound s y
resorted_other s x y w n = go (is_some (bound s x))
  where
    go : (b : Bool) → bound (if b then s else s ++ (x, there x w) ∷ []) y ≡ bound s y
    go true = refl
    go false = bound-append s ((x, there x w) ∷ []) y ∙ ap (λ b. or_else (bound s y) (if b then Some (there x w) else None)) n ∙ none_after (bound s y)

all_kept : (ys : List Var) (ws : Row) (s : Bindings) (y : Var) (t : FlatTerm) → bound s y ≡ Some t → bound (with_all_resorted s ys ws) y ≡ Some t
all_kept [] ws s y t e = e
all_kept (x ∷ ys) [] s y t e = e
all_kept (x ∷ ys) (w ∷ ws) s y t e = all_kept ys ws (with_resorted s x w) y t (resorted_kept s x y w t e)

all_new : (ys : List Var) (ws : Row) (s : Bindings) (y : Var) (e : SortId) → length ys ≡ length ws → bound s y ≡ None → listed ys y ≡ true → bound (with_all_resorted s ys ws) y ≡ Some (there y (beside ys ws y e))
all_new [] ws s y e long n l = absurd (false≢true l)
all_new (x ∷ ys) [] s y e long n l = absurd (omega arith)
all_new (x ∷ ys) (w ∷ ws) s y e long n l = go (same_var x y) refl (all_new ys ws (with_resorted s x w) y e (omega arith))
  where
    go : (b : Bool) → same_var x y ≡ b → (bound (with_resorted s x w) y ≡ None → listed ys y ≡ true → bound (with_all_resorted (with_resorted s x w) ys ws) y ≡ Some (there y (beside ys ws y e))) →
        bound (with_all_resorted (with_resorted s x w) ys ws) y ≡ Some (there y (if b then w else beside ys ws y e))
    go true f rest =
        let is : x ≡ y = same_var_is x y f in
        all_kept ys ws (with_resorted s x w) y (there y w)
        (subst (λ z. bound (with_resorted s x w) z ≡ Some (there z w)) is (resorted_same s x w (ap (bound s) is ∙ n)))
    go false f rest = rest (resorted_other s x y w f ∙ n) (ap (λ b. b || listed ys y) (sym f) ∙ l)

-- nothing is left of one of the lists
pub resorted_ended : (s : Bindings) (ys : List Var) (ws : Row) → (length ys ≡ 0) ⊎ (length ws ≡ 0) → with_all_resorted s ys ws ≡ s
resorted_ended s [] ws h = refl
resorted_ended s (y ∷ ys) [] h = refl
resorted_ended s (y ∷ ys) (w ∷ ws) (inl e) = absurd (omega arith)
resorted_ended s (y ∷ ys) (w ∷ ws) (inr e) = absurd (omega arith)

-- the variables of a list go to themselves at the sorts of the row
pub value_resorting : (ys : List Var) (ws : Row) (y : Var) (e : SortId) → length ys ≡ length ws → listed ys y ≡ true → value (resorting ys ws) y ≡ there y (beside ys ws y e)
value_resorting ys ws y e long l = ap (form_or y) (all_new ys ws [] y e long refl l)

module _ (d : Declarations) where
  -- an instance depends on the variables that occur
  mutual
    pub eval_agrees : (s c : Var → FlatTerm) (t : Term) → ((y : Var) → Occurs y t → s y ≡ c y) → eval d s t ≡ eval d c t
    eval_agrees s c (var x) h = h x refl
    eval_agrees s c (app f ts) h = ap (build d f) (evals_agree s c ts h)

    evals_agree : (s c : Var → FlatTerm) (ts : Terms) → ((y : Var) → OccursAmong y ts → s y ≡ c y) → eval_all d s ts ≡ eval_all d c ts
    evals_agree s c none h = refl
    evals_agree s c (more t ts) h =
        ap (λ u. u ∷ eval_all d s ts) (eval_agrees s c t (λ y o. h y (inl o))) ∙ ap (λ us. eval d c t ∷ us) (evals_agree s c ts (λ y o. h y (inr o)))

  with_resorted_fits : (s : Bindings) (x : Var) (w : SortId) → BindingsFit d s → (IsSort d x.sort → IsSort d w) → kind d w ≡ kind d x.sort → BindingsFit d (with_resorted s x w)
  with_resorted_fits s x w fit i k = go (is_some (bound s x))
    where
      go : (b : Bool) → BindingsFit d (if b then s else s ++ (x, there x w) ∷ [])
      go true = fit
      go false = bind_fits d s x (there x w) fit tt (λ j. (i j, k))

  all_fit : (ys : List Var) (ws : Row) (s : Bindings) → IsRow d ys ws → BindingsFit d s → BindingsFit d (with_all_resorted s ys ws)
  all_fit [] ws s h fit = fit
  all_fit (x ∷ ys) [] s h fit = fit
  all_fit (x ∷ ys) (w ∷ ws) s h fit = all_fit ys ws (with_resorted s x w) h.1 (with_resorted_fits s x w fit h.0.0 h.0.1)

  pub resorting_fits : (ys : List Var) (ws : Row) → IsRow d ys ws → BindingsFit d (resorting ys ws)
  resorting_fits ys ws h = all_fit ys ws [] h (empty_fits d)

  -- the substitution after the variables were put at their sorts
  pub resorted_is : (s r places : Bindings) (ys : List Var) (ws : Row) → ys ≡ variables_of_terms s → IsRow d ys ws → places ≡ resorting ys ws → r ≡ changed (inst d (value places)) s → IsAtSorts d s (way_of d ys ws) r
  resorted_is s r places ys ws vars row placed is x = go (bound s x) refl
    where
      c : Bindings
      c = resorting ys ws

      found : bound r x ≡ option_map (inst d (value c)) (bound s x)
      found = ap (λ z. bound z x) (is ∙ ap (λ (z : Bindings). changed (inst d (value z)) s) placed) ∙ bound-changed (inst d (value c)) s x

      go : (o : Option FlatTerm) → bound s x ≡ o → bound r x ≡ option_map (inst d (λ y. fvar (at_sort (way_of d ys ws) y))) (bound s x)
      go None e =
          found ∙ ap (option_map (inst d (value c))) e ∙ ap (option_map (inst d (λ y. fvar (at_sort (way_of d ys ws) y)))) (sym e)
      go (Some t) e =
          found
          ∙ ap (option_map (inst d (value c))) e
          ∙ ap Some (eval_agrees (value c) (λ y. fvar (at_sort (way_of d ys ws) y)) (plain t) (λ y o. value_resorting ys ws y (kind d y.sort) (row_long d ys ws row) (subst (λ z. listed z y ≡ true) (sym vars) (occurs_in_terms s x y t e o))))
          ∙ ap (option_map (inst d (λ y. fvar (at_sort (way_of d ys ws) y)))) (sym e)
