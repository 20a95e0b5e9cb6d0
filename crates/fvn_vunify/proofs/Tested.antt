-- Lists of tested instances with one more.
use Rattle.std.proofs.Common.{◌≡◌, ◌≢◌, ◌<◌, ◌+◌, ◌⊎◌, ℕ, List, [], ◌∷◌, ◌++◌, length, take, get_or, refl, sym, ap, ◌∙◌, subst, inl, inr}
use Rattle.std.specs.Prelude.{Any, Contains}
use Rattle.std.proofs.lemmas.List.{take_more}
use Rattle.std.proofs.lemmas.List.Elements.{All-nil, All-push, All-append, All-weaker, Contains-push_cases, Contains-append_left, Contains-append_right}
use Rattle.std.proofs.lemmas.List.Quantifiers.{Any-push}
use Rattle.fvn_base.proofs.Membership.{contains_none}
use Rattle.fvn_terms.specs.declared.plain.Var.{Var}
use Rattle.fvn_terms.specs.Substitution.{Substitution}
use Rattle.fvn_terms.specs.Unifiers.{Problem}
use Rattle.fvn_terms.specs.Rewriting.{IsIrreducible}
use Rattle.fvn_forms.specs.Flat.{FlatTerm, plain}
use Rattle.fvn_flat.specs.Bindings.{Bindings, form_or, value, composed, BindingsFit}
use Rattle.fvn_flat.specs.Solving.{substitution}
use Rattle.fvn_cover.specs.declared.variant.Variant.{Variant}
use Rattle.fvn_cover.proofs.Leftovers.{any_contains, any_of}
use Rattle.fvn_exploring.specs.declared.ends.ExpandEnd.{ExpandEnd}
use Rattle.fvn_exploring.specs.declared.ends.ExpandEnd.TheVariants.{Whole, Steps, Size, Basis, Unifiers}
use Rattle.fvn_exploring.specs.Setting.{Setting}
use Rattle.fvn_vunify.specs.declared.testing.Test.TheVariants.{Reducible, Stopped}
use Rattle.fvn_vunify.specs.Causes.{IsPairsCause, MeetsBound}
use Rattle.fvn_vunify.specs.inner.Ends.{first_end}
use Rattle.fvn_vunify.specs.inner.Tests.{IsStopOf, ArePassed, form_under, AllStay, IsTestAmong}
use Rattle.fvn_vunify.specs.inner.Attempts.{candidate_of, IsJoined, IsTestedAs, IsStopBetween, AreTested, IsCandidate, IsAbove, AreWholeFor, IsAttempt, AreAttempts}

-- the first of two ends is the later one where nothing stopped before
pub first_cases : (end later : ExpandEnd) → ((end ≡ Whole) × (first_end end later ≡ later)) ⊎ ((end ≢ Whole) × (first_end end later ≡ end))
first_cases Whole later = inl (refl, refl)
first_cases (Steps start end) later = inr (λ e. cc, refl)
first_cases (Size cause) later = inr (λ e. cc, refl)
first_cases (Basis f system) later = inr (λ e. cc, refl)
first_cases (Unifiers given list) later = inr (λ e. cc, refl)

-- nothing stopped where nothing did in either
pub both_whole : (end later : ExpandEnd) → first_end end later ≡ Whole → (end ≡ Whole) × (later ≡ Whole)
both_whole end later e = elim (first_cases end later) as (λ _. (end ≡ Whole) × (later ≡ Whole)) [
  | inl p ↦ (p.0, sym p.1 ∙ e)
  | inr p ↦ absurd (p.0 (sym p.1 ∙ e))
]

-- one more member of a list
pub take_next : {A : Type 0} (xs : List A) (i : ℕ) (x : A) → i < length xs → x ≡ get_or xs i x → take (i + 1) xs ≡ take i xs ++ x ∷ []
take_next xs i x l is = take_more xs i x l ∙ ap (λ y. take i xs ++ y ∷ []) (sym is)

module _ {A : Type 0} (P : A → Type 0) where
  any_more : (xs : List A) (x : A) → Any P xs → Any P (xs ++ x ∷ [])
  any_more xs x h = let w = any_contains P xs h in any_of P (xs ++ x ∷ []) w.0 (Contains-append_left xs (x ∷ []) w.0 w.1.0) w.1.1

  any_left : (xs ys : List A) → Any P xs → Any P (xs ++ ys)
  any_left xs ys h = let w = any_contains P xs h in any_of P (xs ++ ys) w.0 (Contains-append_left xs ys w.0 w.1.0) w.1.1

  any_right : (xs ys : List A) → Any P ys → Any P (xs ++ ys)
  any_right xs ys h = let w = any_contains P ys h in any_of P (xs ++ ys) w.0 (Contains-append_right xs ys w.0 w.1.0) w.1.1

module _ (g : Setting) (vars : List Var) (first : Bindings) where
  pub tested_none : AreTested g vars first [] [] Whole
  tested_none = record {
    passed = λ u m. absurd (contains_none u m);
    whole = λ e s m h k. absurd (contains_none s m);
    stop = λ n. absurd (n refl);
  }

  -- the same lists and end
  pub tested_as : {list other : List Bindings} {found kept : List Variant} {end last : ExpandEnd} → other ≡ list → kept ≡ found → last ≡ end →
      AreTested g vars first list found end → AreTested g vars first other kept last
  tested_as {list} {other} {found} {kept} {end} {last} a b c h =
      subst (λ l. AreTested g vars first l kept last) (sym a) (subst (λ l. AreTested g vars first list l last) (sym b) (subst (AreTested g vars first list found) (sym c) h))

  module _ (list : List Bindings) (found : List Variant) (end : ExpandEnd) (tested : AreTested g vars first list found end)
      (s by : Bindings) (joined : IsJoined g vars first s by) (fits : BindingsFit g.declarations by) where
    old_passed : (u : Variant) → Contains found u → Any (λ s. IsTestedAs g vars first s u) (list ++ s ∷ [])
    old_passed u m = any_more (λ s. IsTestedAs g vars first s u) list s (tested.passed u m)

    old_stop : end ≢ Whole → Any (λ s. IsStopBetween g vars first s end) (list ++ s ∷ [])
    old_stop n = any_more (λ s. IsStopBetween g vars first s end) list s (tested.stop n)

    -- one that passed
    pub tested_passed : ArePassed g vars by × AllStay g by g.fixed → AreTested g vars first (list ++ s ∷ []) (found ++ candidate_of vars by ∷ []) end
    tested_passed passed = record {
      passed = λ u m. elim (Contains-push_cases found (candidate_of vars by) u m) as (λ _. Any (λ s. IsTestedAs g vars first s u) (list ++ s ∷ [])) [
        | inl o ↦ old_passed u o
        | inr e ↦ Any-push (λ s. IsTestedAs g vars first s u) list s (subst (IsTestedAs g vars first s) e new)
      ];
      whole = λ e z m h k. elim (Contains-push_cases list s z m) as (λ _. Any (IsTestedAs g vars first z) (found ++ candidate_of vars by ∷ [])) [
        | inl o ↦ any_more (IsTestedAs g vars first z) found (candidate_of vars by) (tested.whole e z o h k)
        | inr q ↦ Any-push (IsTestedAs g vars first z) found (candidate_of vars by) (subst (λ a. IsTestedAs g vars first a (candidate_of vars by)) q new)
      ];
      stop = old_stop;
    }
      where
        new : IsTestedAs g vars first s (candidate_of vars by)
        new = record { by = by; joined = joined; is = refl; fits = fits; passed = passed.0; stay = passed.1 }

    -- one that is reducible
    pub tested_reducible : IsTestAmong g vars by Reducible → AreTested g vars first (list ++ s ∷ []) found end
    tested_reducible some = record {
      passed = old_passed;
      whole = λ e z m h k. elim (Contains-push_cases list s z m) as (λ _. Any (IsTestedAs g vars first z) found) [
        | inl o ↦ tested.whole e z o h k
        | inr q ↦ absurd (not_kept z q h k some)
      ];
      stop = old_stop;
    }
      where
        not_kept : (z : Bindings) → s ≡ z → ((x : Var) → Contains vars x → IsIrreducible g.declarations g.equations (substitution (composed g.declarations first z) x)) →
            ((r : Bindings) → IsJoined g vars first z r → AllStay g r g.fixed) → IsTestAmong g vars by Reducible → ⊥
        not_kept z q h k (inl (x, m, n)) =
            let is : substitution (composed g.declarations first z) x ≡ substitution by x =
            ap (λ a. substitution (composed g.declarations first a) x) (sym q) ∙ ap (λ o. plain (form_or x o)) (sym (joined.kept x m)) in
            n (subst (IsIrreducible g.declarations g.equations) is (h x m))
        not_kept z q h k (inr (t, m, n)) = n (k by (subst (λ a. IsJoined g vars first a by) q joined) t m)

    -- one whose test stopped
    pub tested_stopped : (stop : ExpandEnd) → IsTestAmong g vars by (Stopped stop) → AreTested g vars first (list ++ s ∷ []) found (first_end end stop)
    tested_stopped stop some = record {
      passed = old_passed;
      whole = λ e z m h k. absurd (stopped some (both_whole end stop e).1);
      stop = λ n. which (first_cases end stop);
    }
      where
        not_whole : (form : FlatTerm) (stop : ExpandEnd) → IsStopOf g form stop → stop ≢ Whole
        not_whole form Whole h e = h
        not_whole form (Steps start end) h e = cc
        not_whole form (Size cause) h e = cc
        not_whole form (Basis f system) h e = cc
        not_whole form (Unifiers given list) h e = cc

        stopped : IsTestAmong g vars by (Stopped stop) → stop ≢ Whole
        stopped (inl (x, m, h)) = not_whole (value by x) stop h
        stopped (inr (t, m, h)) = not_whole (form_under g by t) stop h.stop

        new : IsStopBetween g vars first s stop
        new = record { by = by; joined = joined; fits = fits; stop = some }

        which : ((end ≡ Whole) × (first_end end stop ≡ stop)) ⊎ ((end ≢ Whole) × (first_end end stop ≡ end)) → Any (λ s. IsStopBetween g vars first s (first_end end stop)) (list ++ s ∷ [])
        which (inl p) = subst (λ z. Any (λ s. IsStopBetween g vars first s z) (list ++ s ∷ [])) (sym p.1) (Any-push (λ s. IsStopBetween g vars first s stop) list s new)
        which (inr p) = subst (λ z. Any (λ s. IsStopBetween g vars first s z) (list ++ s ∷ [])) (sym p.1) (old_stop p.0)

module _ (g : Setting) (drawn : Problem → Substitution → Type 0) (vars : List Var) where
  pub attempts_none : AreAttempts g drawn vars [] [] Whole
  attempts_none = record {
    candidates = All-nil (λ u. Any (λ v. IsCandidate g vars v u) []);
    each = All-nil (λ v. AreWholeFor g vars v [] ⊎ MeetsBound g drawn v);
    whole = λ e. All-nil (λ v. AreWholeFor g vars v []);
    cause = λ n. absurd (n refl);
  }

  -- those of one more variant
  module _ (variants found : List Variant) (end : ExpandEnd) (attempts : AreAttempts g drawn vars variants found end)
      (v : Variant) (more : List Variant) (stop : ExpandEnd) (attempt : IsAttempt g drawn vars v more stop) where
    whole_left : (w : Variant) → AreWholeFor g vars w found → AreWholeFor g vars w (found ++ more)
    whole_left w h c unifies irreducible stay = any_left (IsAbove g vars w c) found more (h c unifies irreducible stay)

    whole_right : (w : Variant) → AreWholeFor g vars w more → AreWholeFor g vars w (found ++ more)
    whole_right w h c unifies irreducible stay = any_right (IsAbove g vars w c) found more (h c unifies irreducible stay)

    one : AreWholeFor g vars v (found ++ more) ⊎ MeetsBound g drawn v
    one = elim (first_cases stop stop) as (λ _. AreWholeFor g vars v (found ++ more) ⊎ MeetsBound g drawn v) [
      | inl p ↦ inl (whole_right v (attempt.whole p.0))
      | inr p ↦ inr (record { end = stop; not_whole = p.0; cause = attempt.cause })
    ]

    each_weaker : (w : Variant) → AreWholeFor g vars w found ⊎ MeetsBound g drawn w → AreWholeFor g vars w (found ++ more) ⊎ MeetsBound g drawn w
    each_weaker w (inl h) = inl (whole_left w h)
    each_weaker w (inr m) = inr m

    why : first_end end stop ≢ Whole → Any (λ w. IsPairsCause g drawn w (first_end end stop)) (variants ++ v ∷ [])
    why n = elim (first_cases end stop) as (λ _. Any (λ w. IsPairsCause g drawn w (first_end end stop)) (variants ++ v ∷ [])) [
      | inl p ↦ subst (λ z. Any (λ w. IsPairsCause g drawn w z) (variants ++ v ∷ [])) (sym p.1) (Any-push (λ w. IsPairsCause g drawn w stop) variants v attempt.cause)
      | inr p ↦ subst (λ z. Any (λ w. IsPairsCause g drawn w z) (variants ++ v ∷ [])) (sym p.1) (any_more (λ w. IsPairsCause g drawn w end) variants v (attempts.cause p.0))
    ]

    pub attempts_more : AreAttempts g drawn vars (variants ++ v ∷ []) (found ++ more) (first_end end stop)
    attempts_more = record {
      candidates = All-append (λ u. Any (λ w. IsCandidate g vars w u) (variants ++ v ∷ [])) found more
          (All-weaker (λ u. Any (λ w. IsCandidate g vars w u) variants) (λ u. Any (λ w. IsCandidate g vars w u) (variants ++ v ∷ [])) (λ u h. any_more (λ w. IsCandidate g vars w u) variants v h) found attempts.candidates)
          (All-weaker (IsCandidate g vars v) (λ u. Any (λ w. IsCandidate g vars w u) (variants ++ v ∷ [])) (λ u h. Any-push (λ w. IsCandidate g vars w u) variants v h) more attempt.candidates);
      each = All-push (λ w. AreWholeFor g vars w (found ++ more) ⊎ MeetsBound g drawn w) variants v
          (All-weaker (λ w. AreWholeFor g vars w found ⊎ MeetsBound g drawn w) (λ w. AreWholeFor g vars w (found ++ more) ⊎ MeetsBound g drawn w) each_weaker variants attempts.each) one;
      whole = λ e.
          let both = both_whole end stop e in
          All-push (λ w. AreWholeFor g vars w (found ++ more)) variants v
          (All-weaker (λ w. AreWholeFor g vars w found) (λ w. AreWholeFor g vars w (found ++ more)) whole_left variants (attempts.whole both.0))
          (whole_right v (attempt.whole both.1));
      cause = why;
    }
