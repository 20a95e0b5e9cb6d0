-- A variant's substitution with new names, and then a unifier of the solver.
use Rattle.std.proofs.Common.{◌≡◌, ◌<◌, ◌≤◌, ℕ, Bool, true, false, List, [], ◌∷◌, map, refl, sym, ap, ◌∙◌, subst, inl, Some, None, Option}
use Rattle.std.specs.Prelude.{Contains, nat_lt}
use Rattle.std.proofs.lemmas.Bool.{lt-ltb, le-ltb, true≢false}
use Rattle.std.proofs.lemmas.List.Elements.{All-nil, All-cons, All-head, All-tail}
use Rattle.fvn_base.proofs.Membership.{contains_here, contains_later}
use Rattle.fvn_terms.specs.declared.plain.Var.{Var}
use Rattle.fvn_terms.specs.Term.{Term, var}
use Rattle.fvn_terms.specs.Substitution.{Substitution, apply, followed_by, Occurs}
use Rattle.fvn_terms.specs.Signature.{kind, IsSort, HasKind, IsTerm, KeepsKinds}
use Rattle.fvn_terms.specs.Places.{stop}
use Rattle.fvn_terms.specs.Equality.{BEqual}
use Rattle.fvn_terms.specs.Sorts.{HasSort, IsWellSorted}
use Rattle.fvn_terms.specs.Unifiers.{IsUnifier, Solves, IsInstance}
use Rattle.fvn_terms.proofs.Substitutions.{apply-apply, apply-agree}
use Rattle.fvn_terms.proofs.Equal.{BEqual-sym, BEqual-trans, BEqual-apply}
use Rattle.fvn_forms.specs.Flat.{FlatTerm, plain}
use Rattle.fvn_forms.specs.Canon.{inst}
use Rattle.fvn_forms.specs.Good.{IsGood}
use Rattle.fvn_flat.specs.Bindings.{Bindings, bound, form_or, value, composed, BindingsFit}
use Rattle.fvn_flat.specs.Drawn.{renamed}
use Rattle.fvn_flat.specs.Fits.{AllFit}
use Rattle.fvn_flat.specs.Problems.{variables_of, plain_pairs}
use Rattle.fvn_flat.specs.Solving.{substitution, problem_of, Binds, IsNumbered}
use Rattle.fvn_flat.specs.Successors.{renamed_form}
use Rattle.fvn_flat.specs.Variables.{listed}
use Rattle.fvn_flat.specs.declared.solver.Pairs.{Pairs}
use Rattle.fvn_flat.proofs.Instances.{inst_equal}
use Rattle.fvn_flat.proofs.Composing.{value-composed}
use Rattle.fvn_rewrite_laws.proofs.Agreement.{equal_by_agreement}
use Rattle.fvn_rewrite_laws.proofs.Listing.{var_listed, listed_var}
use Rattle.fvn_cover.specs.declared.variant.Variant.{Variant}
use Rattle.fvn_exploring.specs.Setting.{Setting}
use Rattle.fvn_vunify.specs.Sides.{two_by_two, problem_over}
use Rattle.fvn_vunify.specs.inner.Names.{AreFreshNames}
use Rattle.fvn_vunify.specs.inner.Attempts.{IsSolvable}
use Rattle.fvn_vunify.proofs.NewNames.{name_of, name_sort, name_is_fresh, back_from, back_name, back_sort}
use Rattle.fvn_vunify.proofs.Posing.{inst_is_renamed, renamed_equal, renamed_term, held, is_renamed}

module _ (g : Setting) (good : IsGood g.declarations) (vars : List Var) (v : Variant) (solvable : IsSolvable g vars v)
    (names : Bindings) (next : ℕ) (fresh : AreFreshNames v names next) where
  abbrev to : Var → Var
  to = name_of v names next fresh

  -- a unifier of the renamed terms, seen from the variant
  abbrev pub seen : Substitution → Substitution
  seen s x = s (to x)

  seen_applied : (s : Substitution) (t : Term) → apply s (renamed to t) ≡ apply (seen s) t
  seen_applied s t = apply-apply (λ x. var (to x)) s t

  pub seen_sorted : (s : Substitution) → IsWellSorted g.declarations s → IsWellSorted g.declarations (seen s)
  seen_sorted s sorted = (
    λ x i. subst (λ q. HasKind g.declarations (s (to x)) (kind g.declarations q)) (name_sort v names next fresh x) (sorted.0 (to x) (subst (IsSort g.declarations) (sym (name_sort v names next fresh x)) i)),
    λ x. subst (HasSort g.declarations (s (to x))) (name_sort v names next fresh x) (sorted.1 (to x)),
  )

  -- on the renamed form it is what is seen on the form
  pub seen_on_form : (s : Substitution) → KeepsKinds g.declarations s → (t : FlatTerm) → IsTerm g.declarations (plain t) →
      BEqual g.declarations (apply s (plain (renamed_form g.declarations to t))) (apply (seen s) (plain t))
  seen_on_form s keeps t h =
      subst (BEqual g.declarations (apply s (plain (renamed_form g.declarations to t)))) (seen_applied s (plain t))
      (BEqual-sym g.declarations (BEqual-apply g.declarations s keeps (renamed_equal g good vars v solvable names next fresh t h)))

  abbrev Unifies : Substitution → Term × Term → Type 0
  Unifies s p = BEqual g.declarations (apply s p.0) (apply s p.1)

  -- it unifies the terms two by two, as the other unifies the renamed ones
  seen_unifies_all : (s : Substitution) → KeepsKinds g.declarations s → (ts : List FlatTerm) → AllFit g.declarations ts →
      Solves (BEqual g.declarations) (problem_over (map (renamed_form g.declarations to) ts)) s → Solves (BEqual g.declarations) (problem_over ts) (seen s)
  seen_unifies_all s keeps [] fit h = All-nil (Unifies (seen s))
  seen_unifies_all s keeps (t ∷ []) fit h = All-nil (Unifies (seen s))
  seen_unifies_all s keeps (t ∷ u ∷ ts) fit h =
      let rest = problem_over (map (renamed_form g.declarations to) ts) in
      let first : Term × Term = (plain (renamed_form g.declarations to t), plain (renamed_form g.declarations to u)) in
      All-cons (Unifies (seen s)) (plain t, plain u) (problem_over ts)
      (BEqual-trans g.declarations (BEqual-sym g.declarations (seen_on_form s keeps t fit.0.kinded))
      (BEqual-trans g.declarations (All-head (Unifies s) first rest h) (seen_on_form s keeps u fit.1.0.kinded)))
      (seen_unifies_all s keeps ts fit.1.1 (All-tail (Unifies s) first rest h))

  unseen_unifies_all : (s : Substitution) → KeepsKinds g.declarations s → (ts : List FlatTerm) → AllFit g.declarations ts →
      Solves (BEqual g.declarations) (problem_over ts) (seen s) → Solves (BEqual g.declarations) (problem_over (map (renamed_form g.declarations to) ts)) s
  unseen_unifies_all s keeps [] fit h = All-nil (Unifies s)
  unseen_unifies_all s keeps (t ∷ []) fit h = All-nil (Unifies s)
  unseen_unifies_all s keeps (t ∷ u ∷ ts) fit h =
      All-cons (Unifies s) (plain (renamed_form g.declarations to t), plain (renamed_form g.declarations to u)) (problem_over (map (renamed_form g.declarations to) ts))
      (BEqual-trans g.declarations (seen_on_form s keeps t fit.0.kinded)
      (BEqual-trans g.declarations (All-head (Unifies (seen s)) (plain t, plain u) (problem_over ts) h) (BEqual-sym g.declarations (seen_on_form s keeps u fit.1.0.kinded))))
      (unseen_unifies_all s keeps ts fit.1.1 (All-tail (Unifies (seen s)) (plain t, plain u) (problem_over ts) h))

  -- a substitution for the variant, seen from the new names
  abbrev pub back : Substitution → Substitution
  back c z = c (back_from v names next fresh z)

  back_sorted : (c : Substitution) → IsWellSorted g.declarations c → IsWellSorted g.declarations (back c)
  back_sorted c sorted =
      let b = back_from v names next fresh in (
        λ z i. subst (λ q. HasKind g.declarations (c (b z)) (kind g.declarations q)) (back_sort v names next fresh z) (sorted.0 (b z) (subst (IsSort g.declarations) (sym (back_sort v names next fresh z)) i)),
        λ z. subst (HasSort g.declarations (c (b z))) (back_sort v names next fresh z) (sorted.1 (b z)),
      )

  back_at : (c : Substitution) (y : Var) → Contains fresh.vars y → back c (to y) ≡ c y
  back_at c y m = ap c (back_name v names next fresh y m)

  -- the sides of pairs agree where each variable of a term does
  agreeing : (a b : Substitution) (ts : List FlatTerm) → ((x : Var) (t : FlatTerm) → Contains ts t → Occurs x (plain t) → a x ≡ b x) →
      Solves (BEqual g.declarations) (problem_over ts) a → Solves (BEqual g.declarations) (problem_over ts) b
  agreeing a b [] same h = All-nil (Unifies b)
  agreeing a b (t ∷ []) same h = All-nil (Unifies b)
  agreeing a b (t ∷ u ∷ ts) same h =
      let left = apply-agree a b (plain t) (λ x o. same x t (contains_here t (u ∷ ts)) o) in
      let right = apply-agree a b (plain u) (λ x o. same x u (contains_later t (u ∷ ts) u (contains_here u ts)) o) in
      All-cons (Unifies b) (plain t, plain u) (problem_over ts)
      (subst (λ w. BEqual g.declarations w (apply b (plain u))) left (subst (BEqual g.declarations (apply a (plain t))) right (All-head (Unifies a) (plain t, plain u) (problem_over ts) h)))
      (agreeing a b ts (λ x w m o. same x w (contains_later t (u ∷ ts) w (contains_later u ts w m)) o) (All-tail (Unifies a) (plain t, plain u) (problem_over ts) h))

  module _ (given : Pairs) (is : given.pairs ≡ two_by_two (map (inst g.declarations (value names)) v.terms)) where
    abbrev terms_named : List FlatTerm
    terms_named = map (renamed_form g.declarations to) v.terms

    problem_is : problem_of given ≡ problem_over terms_named
    problem_is = ap plain_pairs (is_renamed g good vars v solvable names next fresh given is)

    pub seen_unifies : (s : Substitution) → IsUnifier g.declarations (problem_of given) s → IsUnifier g.declarations (problem_over v.terms) (seen s)
    seen_unifies s h = (
      seen_sorted s h.0,
      seen_unifies_all s h.0.0 v.terms solvable.flat.terms (subst (λ p. Solves (BEqual g.declarations) p s) problem_is h.1),
    )

    pub back_unifies : (c : Substitution) → IsUnifier g.declarations (problem_over v.terms) c → IsUnifier g.declarations (problem_of given) (back c)
    back_unifies c h =
        let same : (x : Var) (t : FlatTerm) → Contains v.terms t → Occurs x (plain t) → c x ≡ seen (back c) x =
        λ x t m o. sym (back_at c x (held g good vars v solvable names next fresh x (inl (m.0, t, m.1, m.2, o)))) in (
          back_sorted c h.0,
          subst (λ p. Solves (BEqual g.declarations) p (back c)) (sym problem_is)
              (unseen_unifies_all (back c) (back_sorted c h.0).0 v.terms solvable.flat.terms (agreeing c (seen (back c)) v.terms same h.1)),
        )

    -- what the variant's substitution with new names and then a unifier of the solver make
    module _ (s : Bindings) (fits : BindingsFit g.declarations s) (first : Bindings) (is_first : first ≡ composed g.declarations v.subst names) where
      pub joined_value : (x : Var) → IsSort g.declarations x.sort →
          BEqual g.declarations (substitution (composed g.declarations first s) x) (apply (seen (substitution s)) (substitution v.subst x))
      joined_value x i =
          let t = value v.subst x in
          let w = renamed_form g.declarations to t in
          let h : IsTerm g.declarations (plain t) = (kind g.declarations x.sort, solvable.flat.values.keeps_kinds x i) in
          let before : value first x ≡ w = ap (λ b. value b x) is_first ∙ value-composed g.declarations v.subst names x ∙ inst_is_renamed g good vars v solvable names next fresh t in
          let at : value (composed g.declarations first s) x ≡ inst g.declarations (value s) w = value-composed g.declarations first s x ∙ ap (inst g.declarations (value s)) before in
          let under = inst_equal g.declarations (value s) good fits w (renamed_term g good vars v solvable names next fresh t h) in
          subst (λ u. BEqual g.declarations (plain u) (apply (seen (substitution s)) (plain t))) (sym at)
          (BEqual-trans g.declarations (BEqual-sym g.declarations under) (seen_on_form (substitution s) fits.keeps_kinds t h))

      module _ (end : ℕ) (binds : Binds (problem_of given) s) (numbered : IsNumbered next end (problem_of given) s) (c : Substitution) (sorted : IsWellSorted g.declarations c)
          (i : IsInstance g.declarations (variables_of (problem_of given)) (back c) (substitution s)) where
        choose : Bool → Var → Term
        choose true z = back c z
        choose false z = i.after z

        -- on new variables what makes the instance, on the others what is seen from the new names
        pub after : Substitution
        after z = choose (nat_lt z.name next) z

        pub after_sorted : IsWellSorted g.declarations after
        unfolding choose after
        after_sorted = (λ z k. kinds (nat_lt z.name next) z k, λ z. sorts (nat_lt z.name next) z) where
          kinds : (b : Bool) (z : Var) → IsSort g.declarations z.sort → HasKind g.declarations (choose b z) (kind g.declarations z.sort)
          kinds true z k = (back_sorted c sorted).0 z k
          kinds false z k = i.well_sorted.0 z k

          sorts : (b : Bool) (z : Var) → HasSort g.declarations (choose b z) z.sort
          sorts true z = (back_sorted c sorted).1 z
          sorts false z = i.well_sorted.1 z

        after_old : (z : Var) → z.name < next → after z ≡ back c z
        unfolding choose after
        after_old z l = ap (λ b. choose b z) (lt-ltb z.name next l)

        after_new : (z : Var) → next ≤ z.name → after z ≡ i.after z
        unfolding choose after
        after_new z l = ap (λ b. choose b z) (le-ltb z.name next l)

        abbrev vars_of_problem : List Var
        vars_of_problem = variables_of (problem_of given)

        -- a variable that is not bound stays
        unbound : (z : Var) → listed vars_of_problem z ≡ false → substitution s z ≡ var z
        unbound z e = ap (λ o. plain (form_or z o)) (none (bound s z) refl) where
          none : (o : Option FlatTerm) → bound s z ≡ o → bound s z ≡ None
          none None q = q
          none (Some t) q = absurd (true≢false (sym (listed_var vars_of_problem z ((binds z).1 (t, q))) ∙ e))

        gives_back : (y : Var) → Contains fresh.vars y → BEqual g.declarations (c y) (apply after (seen (substitution s) y))
        gives_back y m = go (listed vars_of_problem (to y)) refl where
          go : (b : Bool) → listed vars_of_problem (to y) ≡ b → BEqual g.declarations (c y) (apply after (substitution s (to y)))
          go true e =
              let k = var_listed vars_of_problem (to y) e in
              let t = substitution s (to y) in
              let same : apply i.after t ≡ apply after t = apply-agree i.after after t (λ w o. sym (after_new w (numbered (to y) w k o).1)) in
              subst (λ u. BEqual g.declarations u (apply after t)) (back_at c y m) (subst (BEqual g.declarations (back c (to y))) same (i.equal (to y) k))
          go false e =
              let is : c y ≡ apply after (substitution s (to y)) =
              sym (back_at c y m) ∙ sym (after_old (to y) (name_is_fresh v names next fresh y m).1) ∙ ap (apply after) (sym (unbound (to y) e)) in
              subst (BEqual g.declarations (c y)) is stop

        -- so the unifier of the variant's terms is an instance
        pub joined_above : (x : Var) → Contains v.vars x → IsSort g.declarations x.sort →
            BEqual g.declarations (apply c (substitution v.subst x)) (apply after (substitution (composed g.declarations first s) x))
        joined_above x m k =
            let t = substitution v.subst x in
            let u = apply (seen (substitution s)) t in
            let above : BEqual g.declarations (apply c t) (apply after u) =
            subst (BEqual g.declarations (apply c t)) (sym (apply-apply (seen (substitution s)) after t))
            (equal_by_agreement g.declarations c (followed_by (seen (substitution s)) after) t (λ y o. gives_back y (fresh.held y (x, m, o)))) in
            BEqual-trans g.declarations above (BEqual-sym g.declarations (BEqual-apply g.declarations after after_sorted.0 (joined_value x k)))
