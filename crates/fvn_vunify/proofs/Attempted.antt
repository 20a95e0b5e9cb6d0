-- What is found for one variant, from the solver's answer and the tests.
use Rattle.std.proofs.Common.{◌≡◌, ◌≢◌, ◌<◌, ◌⊎◌, ℕ, List, map, length, refl, sym, ap, ◌∙◌, subst, inl, inr, arith, Option, Some, None}
use Rattle.std.specs.Prelude.{All, Any, Contains}
use Rattle.std.proofs.lemmas.List.Elements.{All-contains, All-weaker, All-contains_itself}
use Rattle.fvn_base.proofs.Membership.{map_contains}
use Rattle.fvn_terms.specs.declared.plain.Var.{Var}
use Rattle.fvn_terms.specs.Term.{Term, var}
use Rattle.fvn_terms.specs.Substitution.{Substitution, apply, followed_by, Occurs}
use Rattle.fvn_terms.specs.Signature.{kind, IsSort}
use Rattle.fvn_terms.specs.Equality.{BEqual}
use Rattle.fvn_terms.specs.Sorts.{IsWellSorted}
use Rattle.fvn_terms.specs.Unifiers.{Problem, IsUnifier, IsInstance}
use Rattle.fvn_terms.specs.Rewriting.{IsIrreducible}
use Rattle.fvn_terms.proofs.Substitutions.{apply-apply}
use Rattle.fvn_forms.specs.Flat.{FlatTerm, plain}
use Rattle.fvn_forms.specs.Canon.{inst}
use Rattle.fvn_forms.specs.Good.{IsGood}
use Rattle.fvn_forms.proofs.Eval.{canon_plain}
use Rattle.fvn_flat.specs.Bindings.{Bindings, bound, form_or, value, composed, BindsOnce, BindingsFit}
use Rattle.fvn_flat.specs.Drawn.{OccursInValues}
use Rattle.fvn_flat.specs.Fits.{Fits}
use Rattle.fvn_flat.specs.Problems.{variables_of, plain_pairs}
use Rattle.fvn_flat.specs.Solving.{substitution, symbols_of_pairs, problem_of, Binds, IsNumbered, AreUnifiers, AreDrawn, AreBindings, AreNumbered, AreApart, AreComplete, HasCause, IsCause}
use Rattle.fvn_flat.specs.Successors.{OccursIn}
use Rattle.fvn_flat.specs.declared.solver.Pairs.{Pairs}
use Rattle.fvn_flat.specs.declared.solver.Solved.{Solved}
use Rattle.fvn_flat.specs.declared.solver.SolveEnd.{SolveEnd}
use Rattle.fvn_flat.specs.declared.solver.SolveEnd.TheVariants.{Complete, Basis as BasisOfSolver, Unifiers as UnifiersOfSolver, Size as SizeOfSolver}
use Rattle.fvn_flat.specs.declared.solver.SizeCause.TheVariants.{Problem as OfProblem, Binding, Term as OfTerm}
use Rattle.fvn_rewrite_laws.specs.Normalised.{IsReached}
use Rattle.fvn_rewrite_laws.proofs.Agreement.{equal_by_agreement}
use Rattle.fvn_rewrite_laws.specs.Laws.{SequenceLaws}
use Rattle.fvn_cover.specs.declared.variant.Variant.{Variant}
use Rattle.fvn_cover.proofs.Leftovers.{any_contains}
use Rattle.fvn_exploring.specs.declared.ends.ExpandEnd.{ExpandEnd}
use Rattle.fvn_exploring.specs.declared.ends.ExpandEnd.TheVariants.{Whole, Steps, Size, Basis, Unifiers}
use Rattle.fvn_exploring.specs.Setting.{Setting}
use Rattle.fvn_vunify.specs.Sides.{two_by_two, problem_over}
use Rattle.fvn_vunify.specs.Causes.{IsPairsProblem, IsDrawnSolution, IsOfSolution, IsPairsCause}
use Rattle.fvn_vunify.specs.inner.Ends.{end_of_pairs, first_end}
use Rattle.fvn_vunify.specs.inner.Names.{AreFreshNames}
use Rattle.fvn_vunify.specs.declared.testing.Test.TheVariants.{Stopped}
use Rattle.fvn_vunify.specs.inner.Tests.{IsUnfinished, GrowsTo, IsStopOf, form_under, AllStay, IsTestAmong}
use Rattle.fvn_vunify.specs.inner.Attempts.{IsSolvable, IsJoined, IsTestedAs, IsStopBetween, AreTested, IsCandidate, IsAttempt}
use Rattle.fvn_vunify.proofs.NewNames.{name_of, name_is_fresh}
use Rattle.fvn_vunify.proofs.Posing.{with_names, renamed_before, named_by, is_renamed, posed}
use Rattle.fvn_vunify.proofs.Joined.{seen, seen_unifies, back, back_unifies, joined_value, after, after_sorted, joined_above}
use Rattle.fvn_vunify.proofs.Tested.{first_cases, both_whole}

-- the pairs are solved wholly only where the solver's answer is complete
whole_is_complete : (given : Pairs) (list : List Bindings) (end : SolveEnd) → end_of_pairs given list end ≡ Whole → end ≡ Complete
whole_is_complete given list Complete e = refl
whole_is_complete given list (BasisOfSolver f system) e = cc
whole_is_complete given list UnifiersOfSolver e = cc
whole_is_complete given list (SizeOfSolver cause) e = cc

module _ (g : Setting) (drawn : Problem → Substitution → Type 0) (good : IsGood g.declarations) (sequences : SequenceLaws g.declarations g.equations)
    (vars : List Var) (v : Variant) (solvable : IsSolvable g vars v) (names : Bindings) (next : ℕ) (fresh : AreFreshNames v names next)
    (given : Pairs) (is : given.pairs ≡ two_by_two (map (inst g.declarations (value names)) v.terms))
    (solved : Solved) (unifiers : AreUnifiers g.declarations given solved) (are_drawn : AreDrawn g.declarations given drawn solved)
    (binds : AreBindings g.declarations given solved) (numbered : AreNumbered g.declarations given next solved) where
  sort_of : (x : Var) → Contains v.vars x → IsSort g.declarations x.sort
  sort_of x m = All-contains (λ (y : Var). IsSort g.declarations y.sort) v.vars x solvable.flat.vars m

  problem_is : problem_of given ≡ problem_over (with_names g good vars v solvable names next fresh).terms
  problem_is = ap plain_pairs (is_renamed g good vars v solvable names next fresh given is)

  module _ (first : Bindings) (is_first : first ≡ composed g.declarations v.subst names) where
    -- what the solver says of each unifier
    module _ (s : Bindings) (m : Contains solved.unifiers s) where
      unifies_one : IsUnifier g.declarations (problem_of given) (substitution s)
      unifies_one = All-contains (λ s. IsUnifier g.declarations (problem_of given) (substitution s)) solved.unifiers s unifiers m

      drawn_one : drawn (problem_of given) (substitution s)
      drawn_one = All-contains (λ s. drawn (problem_of given) (substitution s)) solved.unifiers s are_drawn m

      binds_one : Binds (problem_of given) s × BindsOnce s × BindingsFit g.declarations s
      binds_one = All-contains (λ s. Binds (problem_of given) s × BindsOnce s × BindingsFit g.declarations s) solved.unifiers s binds m

      numbered_one : IsNumbered next solved.next_fresh (problem_of given) s
      numbered_one = All-contains (IsNumbered next solved.next_fresh (problem_of given)) solved.unifiers s numbered m

      value_one : (by : Bindings) (x : Var) → Contains vars x → bound by x ≡ bound (composed g.declarations first s) x →
          BEqual g.declarations (substitution by x) (apply (seen g good vars v solvable names next fresh (substitution s)) (substitution v.subst x))
      value_one by x n e =
          subst (λ o. BEqual g.declarations (plain (form_or x o)) (apply (seen g good vars v solvable names next fresh (substitution s)) (substitution v.subst x))) (sym e)
          (joined_value g good vars v solvable names next fresh given is s binds_one.2 first is_first x (sort_of x ((solvable.same_vars x).0 n)))

      candidate_one : (u : Variant) → IsTestedAs g vars first s u → IsCandidate g vars v u
      candidate_one u t = record {
        by = t.by;
        is = t.is;
        fits = t.fits;
        others = λ x n. ap (λ o. plain (form_or x o)) (t.joined.others x n);
        passed = t.passed;
        stay = t.stay;
        unifier = seen g good vars v solvable names next fresh (substitution s);
        unifies = seen_unifies g good vars v solvable names next fresh given is (substitution s) unifies_one;
        same = λ x n. value_one t.by x n (t.joined.kept x n);
      }

      -- the values are those of a drawn solution
      stays : (x : Var) → (Contains (variables_of (problem_of given)) x → ⊥) → substitution s x ≡ var x
      stays x n = ap (λ o. plain (form_or x o)) (none (bound s x) refl) where
        none : (o : Option FlatTerm) → bound s x ≡ o → bound s x ≡ None
        none None q = q
        none (Some t) q = absurd (n ((binds_one.0 x).1 (t, q)))

      is_new : (x : Var) → OccursInValues (variables_of (problem_of given)) (substitution s) x →
          OccursIn g.declarations v.vars (with_names g good vars v solvable names next fresh) x → ⊥
      is_new x o w =
          let high = (numbered_one o.0 x o.1 o.2).1 in
          let y = named_by g good vars v solvable names next fresh x w in
          let low : x.name < next = subst (λ (z : Var). z.name < next) (sym y.1.1) (name_is_fresh v names next fresh y.0 y.1.0).1 in
          omega (arith, high, low)

      solution_one : (by : Bindings) → ((x : Var) → Contains vars x → bound by x ≡ bound (composed g.declarations first s) x) → IsDrawnSolution g drawn v (substitution by)
      solution_one by kept = record {
        from = with_names g good vars v solvable names next fresh;
        renamed_before = renamed_before g good vars v solvable names next fresh;
        unifier = substitution s;
        problem = problem_of given;
        is_problem = problem_is;
        unifies = unifies_one;
        is_drawn = drawn_one;
        others_stay = stays;
        new = is_new;
        values = λ x n.
            let k = (solvable.same_vars x).1 n in
            subst (BEqual g.declarations (substitution by x)) (sym (apply-apply (λ y. var (name_of v names next fresh y)) (substitution s) (substitution v.subst x)))
            (value_one by x k (kept x k));
      }

      -- why a test of a form stopped
      form_cause : (form : FlatTerm) → IsOfSolution g drawn v form → Fits g.declarations form → (end : ExpandEnd) → IsStopOf g form end → IsPairsCause g drawn v end
      form_cause form told fits Whole h = absurd h
      form_cause form told fits (Steps start end) h =
          let k : IsUnfinished g form start end = h in
          let at = sym k.is in
          record {
            told = subst (IsOfSolution g drawn v) at told;
            fits = subst (Fits g.declarations) at fits;
            reached = subst (λ t. IsReached g.declarations g.equations g.bounds.steps t end) at k.reached;
            reducible = k.reducible;
          }
      form_cause form told fits (Size (OfProblem p)) h = absurd h
      form_cause form told fits (Size (Binding list)) h = absurd h
      form_cause form told fits (Size (OfTerm end)) h =
          let k : GrowsTo g form end = h in
          record { start = form; told = told; steps = k.steps; reached = k.reached; large = k.large }
      form_cause form told fits (Basis f system) h = absurd h
      form_cause form told fits (Unifiers given list) h = absurd h

      -- why a test of a value, or of a fixed term, stopped
      stop_cause : (end : ExpandEnd) → IsStopBetween g vars first s end → IsPairsCause g drawn v end
      stop_cause end b = of b.stop where
        of : IsTestAmong g vars b.by (Stopped end) → IsPairsCause g drawn v end
        of (inl (x, m, h)) =
            let k = (solvable.same_vars x).0 m in
            form_cause (value b.by x)
            (record { by = substitution b.by; solution = solution_one b.by b.joined.kept; is = inl (x, k, sym (canon_plain g.declarations (value b.by x) (b.fits.settled x))) })
            (record { flat = b.fits.settled x; kinded = (kind g.declarations x.sort, b.fits.keeps_kinds x (sort_of x k)) })
            end h
        of (inr (t, m, h)) =
            form_cause (form_under g b.by t)
            (record { by = substitution b.by; solution = solution_one b.by b.joined.kept; is = inr (t, m, refl) })
            h.fits end h.stop

    module _ (apart : AreApart g.declarations given solved) (complete : AreComplete g.declarations given solved)
        (cause : HasCause g.declarations given g.unifiers g.bounds.size solved) (found : List Variant) (stop : ExpandEnd) (tested : AreTested g vars first solved.unifiers found stop) where
      candidates : All (IsCandidate g vars v) found
      candidates = All-weaker (Contains found) (IsCandidate g vars v)
          (λ u m. let w = any_contains (λ s. IsTestedAs g vars first s u) solved.unifiers (tested.passed u m) in candidate_one w.0 w.1.0 u w.1.1)
          found (All-contains_itself found)

      is_posed : IsPairsProblem g v given
      is_posed = posed g good vars v solvable names next fresh given is

      -- why the solver stopped
      pairs_cause : (end : SolveEnd) → IsCause g.declarations given g.unifiers g.bounds.size (length solved.unifiers) end → IsPairsCause g drawn v (end_of_pairs given solved.unifiers end)
      pairs_cause Complete h = tt
      pairs_cause (BasisOfSolver f system) h = record { given = given; posed = is_posed; basis = h }
      pairs_cause UnifiersOfSolver h = record { posed = is_posed; many = h; unifiers = unifiers; are_drawn = are_drawn; apart = apart }
      pairs_cause (SizeOfSolver (OfProblem p)) h = subst (λ (q : Pairs). IsPairsProblem g v q × (g.bounds.size < symbols_of_pairs q.pairs)) (sym h.0) (is_posed, h.1)
      pairs_cause (SizeOfSolver (Binding list)) h = record { given = given; posed = is_posed; large = h }
      pairs_cause (SizeOfSolver (OfTerm t)) h = absurd h

      abbrev end : ExpandEnd
      end = end_of_pairs given solved.unifiers solved.end

      why : IsPairsCause g drawn v (first_end end stop)
      why = elim (first_cases end stop) as (λ _. IsPairsCause g drawn v (first_end end stop)) [
        | inl p ↦ subst (IsPairsCause g drawn v) (sym p.1) (of_tests (first_cases stop stop))
        | inr p ↦ subst (IsPairsCause g drawn v) (sym p.1) (pairs_cause solved.end cause)
      ]
        where
          of_tests : ((stop ≡ Whole) × (first_end stop stop ≡ stop)) ⊎ ((stop ≢ Whole) × (first_end stop stop ≡ stop)) → IsPairsCause g drawn v stop
          of_tests (inl p) = subst (IsPairsCause g drawn v) (sym p.0) tt
          of_tests (inr p) = let w = any_contains (λ s. IsStopBetween g vars first s stop) solved.unifiers (tested.stop p.0) in stop_cause w.0 w.1.0 stop w.1.1

      -- each unifier of the terms two by two that gives irreducible values is below one that is found
      module _ (all : solved.end ≡ Complete) (none_stopped : stop ≡ Whole) (c : Substitution) (unifies : IsUnifier g.declarations (problem_over v.terms) c)
          (irreducible : (x : Var) → Contains vars x → IsIrreducible g.declarations g.equations (apply c (substitution v.subst x)))
          (stay : (t : Term) → Contains g.fixed t → IsIrreducible g.declarations g.equations (apply c (apply (substitution v.subst) t))) where
        module _ (s : Bindings) (m : Contains solved.unifiers s)
            (i : IsInstance g.declarations (variables_of (problem_of given)) (back g good vars v solvable names next fresh c) (substitution s)) where
          abbrev later : Substitution
          later = after g good vars v solvable names next fresh given is s (binds_one s m).2 first is_first solved.next_fresh (binds_one s m).0 (numbered_one s m) c unifies.0 i

          above : (x : Var) → Contains vars x → BEqual g.declarations (apply c (substitution v.subst x)) (apply later (substitution (composed g.declarations first s) x))
          above x n =
              let k = (solvable.same_vars x).0 n in
              joined_above g good vars v solvable names next fresh given is s (binds_one s m).2 first is_first solved.next_fresh (binds_one s m).0 (numbered_one s m) c unifies.0 i x k (sort_of x k)

          is_sorted : IsWellSorted g.declarations later
          is_sorted = after_sorted g good vars v solvable names next fresh given is s (binds_one s m).2 first is_first solved.next_fresh (binds_one s m).0 (numbered_one s m) c unifies.0 i

          value_irreducible : (x : Var) → Contains vars x → IsIrreducible g.declarations g.equations (substitution (composed g.declarations first s) x)
          value_irreducible x n =
              let t = substitution (composed g.declarations first s) x in
              sequences.instances later is_sorted t (sequences.irreducible (apply c (substitution v.subst x)) (apply later t) (above x n) (irreducible x n))

          -- the fixed terms have instances that stay irreducible
          above_fixed : (r : Bindings) → IsJoined g vars first s r → (t : Term) → Contains g.fixed t →
              BEqual g.declarations (apply c (apply (substitution v.subst) t)) (apply later (apply (substitution r) t))
          above_fixed r joined t m =
              let value_above : (x : Var) → Occurs x t → BEqual g.declarations (apply c (substitution v.subst x)) (apply later (substitution r x)) =
              λ x o. let n = solvable.fixed t m x o in
              subst (λ w. BEqual g.declarations (apply c (substitution v.subst x)) (apply later w)) (ap (λ o. plain (form_or x o)) (sym (joined.kept x n))) (above x n) in
              subst (λ w. BEqual g.declarations w (apply later (apply (substitution r) t))) (sym (apply-apply (substitution v.subst) c t))
              (
              subst (BEqual g.declarations (apply (followed_by (substitution v.subst) c) t)) (sym (apply-apply (substitution r) later t))
              (equal_by_agreement g.declarations (followed_by (substitution v.subst) c) (followed_by (substitution r) later) t value_above)
              )

          fixed_stay : (r : Bindings) → IsJoined g vars first s r → AllStay g r g.fixed
          fixed_stay r joined t m =
              let w = apply (substitution r) t in
              sequences.instances later is_sorted w
              (sequences.irreducible (apply c (apply (substitution v.subst) t)) (apply later w) (above_fixed r joined t m) (stay t m))

          below_found : Any (λ u. IsInstance g.declarations vars (followed_by (substitution v.subst) c) (substitution u.subst)) found
          below_found =
              let w = tested.whole none_stopped s m value_irreducible fixed_stay in (
                w.0,
                w.1,
                w.2,
                w.3,
                record {
                  after = later;
                  well_sorted = is_sorted;
                  equal = λ x n.
                      let at : substitution (composed g.declarations first s) x ≡ substitution (w.1).subst x =
                      ap (λ o. plain (form_or x o)) (sym (w.4.joined.kept x n)) ∙ ap (λ (u : Variant). substitution u.subst x) (sym w.4.is) in
                      subst (λ t. BEqual g.declarations (apply c (substitution v.subst x)) (apply later t)) at (above x n);
                },
              )

        whole_one : Any (λ u. IsInstance g.declarations vars (followed_by (substitution v.subst) c) (substitution u.subst)) found
        whole_one =
            let b = back g good vars v solvable names next fresh c in
            let w = any_contains (IsInstance g.declarations (variables_of (problem_of given)) b) (map substitution solved.unifiers)
            ((complete all).complete b (back_unifies g good vars v solvable names next fresh given is c unifies)) in
            let s = map_contains substitution solved.unifiers w.0 w.1.0 in
            below_found s.0 s.1.0 (subst (IsInstance g.declarations (variables_of (problem_of given)) b) (sym s.1.1) w.1.1)

      pub attempted : IsAttempt g drawn vars v found (first_end (end_of_pairs given solved.unifiers solved.end) stop)
      attempted = record {
        candidates = candidates;
        whole = λ e c unifies irreducible stay.
            let both = both_whole end stop e in
            whole_one (whole_is_complete given solved.unifiers solved.end both.0) both.1 c unifies irreducible stay;
        cause = why;
      }
