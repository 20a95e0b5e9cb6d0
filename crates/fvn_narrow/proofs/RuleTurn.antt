-- What is found by one rule at one part.
use Rattle.std.proofs.Common.{◌≡◌, ◌≤◌, ℕ, List, [], ◌∷◌, map, sym, ap, subst, inl, inr, arith}
use Rattle.std.specs.Prelude.{◌⊎◌, All, Any, Contains}
use Rattle.std.proofs.lemmas.List.Elements.{All-nil, All-contains, All-weaker, All-contains_itself}
use Rattle.fvn_base.specs.declared.limits.TheConstants.{NEXT_FRESH}
use Rattle.fvn_base.proofs.Membership.{map_contains}
use Rattle.fvn_terms.specs.declared.plain.Var.{Var}
use Rattle.fvn_terms.specs.declared.declarations.Declarations.{Declarations}
use Rattle.fvn_terms.specs.Theory.{Equations}
use Rattle.fvn_terms.specs.Substitution.{Substitution, Occurs}
use Rattle.fvn_terms.specs.Equality.{BEqual}
use Rattle.fvn_terms.specs.Unifiers.{Problem, IsUnifier}
use Rattle.fvn_terms.specs.Rewriting.{BringsNoVariable}
use Rattle.fvn_terms.specs.Laws.{RewritingLaws}
use Rattle.fvn_forms.specs.Flat.{FlatTerm, plain}
use Rattle.fvn_forms.specs.Good.{IsGood}
use Rattle.fvn_signature.specs.Queries.{IsCompleted}
use Rattle.fvn_flat.specs.Bindings.{Bindings, BindsOnce, BindingsFit}
use Rattle.fvn_flat.specs.OneAnswer.{IsCompleteFor}
use Rattle.fvn_flat.specs.Problems.{plain_pairs}
use Rattle.fvn_flat.specs.Solving.{substitution, problem_of, Binds, IsNumbered, AreUnifiers, AreDrawn, AreBindings, AreNumbered, AreApart, AreComplete}
use Rattle.fvn_flat.specs.Successors.{OccursIn}
use Rattle.fvn_flat.specs.declared.solver.Pairs.{Pairs}
use Rattle.fvn_flat.specs.declared.solver.Solved.{Solved}
use Rattle.fvn_flat.specs.declared.solver.SolveEnd.TheVariants.{Complete}
use Rattle.fvn_cover.specs.declared.variant.Variant.{Variant}
use Rattle.fvn_rewrite_laws.specs.Laws.{ListLaws, RuleLaws}
use Rattle.fvn_rewrite.specs.Usable.{Rewriting, AreUsable, equations_by}
use Rattle.fvn_exploring.specs.Setting.{Setting}
use Rattle.fvn_exploring.specs.Children.{narrowed}
use Rattle.fvn_narrow_children.specs.Starts.{IsNumberedUpTo}
use Rattle.fvn_narrow_children.specs.Growing.{IsGrown, IsDealtWith}
use Rattle.fvn_places.proofs.PathFacts.{stands_at}
use Rattle.fvn_narrow.specs.Settings.{narrowing_setting}
use Rattle.fvn_narrow.specs.inner.Turns.{Turn, put_in, IsReady, AreMembers}
use Rattle.fvn_narrow.proofs.Turning.{problem_at, IsFitTurn, IsGivenIn}
use Rattle.fvn_narrow.proofs.Occurring.{occurs_at}
use Rattle.fvn_narrow.proofs.Children.{item_listed, all_reached}
use Rattle.fvn_lifting.specs.Meetings.{IsNew, ShareNone, IsOverNew}
use Rattle.fvn_lifting.specs.Lifted.{may_be_any, LiftsAt, IsBroughtTo, HasReducible, IsTurned, IsStepUnder}
use Rattle.fvn_lifting.specs.Laws.{SuccessorsAreSteps, TurnsLift}
use Rattle.fvn_terms.proofs.Equal.{BEqual-refl}
use Rattle.fvn_narrow.proofs.Steps.{successor, step_from, unifier_is, unbound_stays, old_is_not_new}

-- what a solver promises, and that its problem is that of the part and the left side
pub record IsAnswered (r : Rewriting) (drawn : Problem → Substitution → Type 0) (next : ℕ) (at left : FlatTerm) (given : Pairs) (solved : Solved) : Type 0 where
  pub given_is : given.pairs ≡ (at, left) ∷ []
  pub sound : AreUnifiers r.signature given solved
  pub drawn_all : AreDrawn r.signature given drawn solved
  pub binds : AreBindings r.signature given solved
  pub fresh : AreNumbered r.signature given next solved
  pub bounded : solved.next_fresh ≤ NEXT_FRESH
  pub apart : AreApart r.signature given solved
  pub complete : AreComplete r.signature given solved

module _ (r : Rewriting) (drawn : Problem → Substitution → Type 0) (next : ℕ) (at left : FlatTerm) (given : Pairs) (solved : Solved) (a : IsAnswered r drawn next at left given solved) where
  problem_is : problem_of given ≡ problem_at at left
  problem_is = ap plain_pairs a.given_is

  -- each unifier is as promised
  pub given_in : (s : Bindings) → Contains solved.unifiers s → IsGivenIn r drawn next (problem_at at left) s
  given_in s i =
      let b = All-contains (λ s. Binds (problem_of given) s × BindsOnce s × BindingsFit r.signature s) solved.unifiers s a.binds i in
      subst (λ p. IsGivenIn r drawn next p s) problem_is record {
        unifies = All-contains (λ s. IsUnifier r.signature (problem_of given) (substitution s)) solved.unifiers s a.sound i;
        is_drawn = All-contains (λ s. drawn (problem_of given) (substitution s)) solved.unifiers s a.drawn_all i;
        binds = b.0;
        fits = b.2;
        after = solved.next_fresh;
        numbered = All-contains (IsNumbered next solved.next_fresh (problem_of given)) solved.unifiers s a.fresh i;
        bounded = a.bounded;
      }

  pub complete_for : solved.end ≡ Complete → IsCompleteFor r.signature (problem_at at left) (map substitution solved.unifiers)
  complete_for e = subst (λ p. IsCompleteFor r.signature p (map substitution solved.unifiers)) problem_is (a.complete e)

module _ (r : Rewriting) (good : IsGood r.signature) (completed : IsCompleted r.signature) (usable : AreUsable r.signature r.rules) (brings_none : BringsNoVariable (equations_by r)) (rewriting : RewritingLaws r.signature (equations_by r))
    (lists : ListLaws r.signature (equations_by r)) (rules : RuleLaws r.signature (equations_by r)) (steps : SuccessorsAreSteps) (turns : TurnsLift)
    (unifiers : ℕ) (drawn : Problem → Substitution → Type 0) (v : Variant) (next : ℕ) (ready : IsReady r v next) (at : FlatTerm) (turn : Turn) (t : IsFitTurn r v at turn)
    (given : Pairs) (solved : Solved) (a : IsAnswered r drawn next at turn.rule.left given solved) where
  abbrev d : Declarations
  d = r.signature

  abbrev equations : Equations
  equations = equations_by r

  abbrev g : Setting
  g = narrowing_setting r unifiers

  abbrev left : FlatTerm
  left = turn.rule.left

  abbrev problem : Problem
  problem = problem_at at left

  pub at_numbered : (x : Var) → Occurs x (plain at) → IsNumberedUpTo next x
  at_numbered x o =
      let i = item_listed v.terms turn.member t.turn_is.term t.turn_is.is in
      ready.numbers x (inl (i.0, t.turn_is.term, i.1, i.2, occurs_at x t.turn_is.whole t.turn_is.whole (stands_at turn.path t.turn_is.term t.turn_is.whole t.turn_is.leads) (t.within x o)))

  share_none : ShareNone (plain at) (plain left)
  share_none x o i = old_is_not_new x next (t.old x (inl i)) (at_numbered x o)

  apart : (x : Var) → OccursIn d v.vars (narrowed v) x → (Occurs x (plain left) → ⊥) × (IsNew next x → ⊥)
  apart x i = (λ o. old_is_not_new x next (t.old x (inl o)) (ready.numbers x i), λ n. let high = (ready.numbers x i).high in let low = n.1 in absurd (omega arith))

  over_new : (u : Substitution) → Contains (map substitution solved.unifiers) u → IsOverNew next problem u
  over_new u i =
      let p = map_contains substitution solved.unifiers u i in
      let s = given_in r drawn next at left given solved a p.0 p.1.0 in
      subst (IsOverNew next problem) p.1.1 record {
        others_stay = λ x n. unbound_stays problem p.0 s.binds x n;
        new = λ y o. let n = s.numbered o.0 y o.1 o.2 in (n.0, n.1);
      }

  module _ (members : List FlatTerm) (m : AreMembers d v.terms turn.member turn.path (put_in d turn) members) (children : List Variant) where
    turned_by : (s : Bindings) → Contains solved.unifiers s → IsDealtWith r v members s children → IsTurned g v.vars (narrowed v) children (substitution s)
    turned_by s i dealt = record {
      to = successor r good drawn v next ready at turn t members m s u;
      step =
          subst (IsStepUnder d v.vars equations (narrowed v) (successor r good drawn v next ready at turn t members m s u)) (unifier_is r good may_be_any v next ready at turn t members m s any)
          (steps d good completed equations usable.admissible v.vars (narrowed v) (successor r good may_be_any v next ready at turn t members m s any) ready.flat.terms (step_from r good may_be_any v next ready at turn t members m s any));
      taken = taken dealt;
    }
      where
        u : IsGivenIn r drawn next problem s
        u = given_in r drawn next at left given solved a s i

        -- any unifier might be drawn
        any : IsGivenIn r may_be_any next problem s
        any = record { unifies = u.unifies; is_drawn = tt; binds = u.binds; fits = u.fits; after = u.after; numbered = u.numbered; bounded = u.bounded }

        brought : (c : Variant) → IsGrown r v members s c → IsBroughtTo g v.vars (successor r good drawn v next ready at turn t members m s u) c
        brought c grown =
            let e = all_reached r good brings_none rewriting lists rules unifiers drawn v next ready at turn t members m s u c grown in record {
              steps = e.0;
              reached = e.1;
              same = λ x k. subst (BEqual d (substitution c.subst x)) (ap plain (grown.values.values x k)) (BEqual-refl d (substitution c.subst x));
            }

        taken : IsDealtWith r v members s children → Any (IsBroughtTo g v.vars (successor r good drawn v next ready at turn t members m s u)) children ⊎ HasReducible g v.vars (successor r good drawn v next ready at turn t members m s u)
        taken (inl w) = inl (w.1.0, w.0, w.1.1, w.1.2, brought w.0 w.2)
        taken (inr l) = inr (inl (l.listed.0, l.variable, l.listed.1, l.listed.2, l.reducible))

    -- where all unifiers were dealt with, and they are complete
    pub lifts_here : solved.end ≡ Complete → All (λ s. IsDealtWith r v members s children) solved.unifiers → LiftsAt g v.vars (narrowed v) at left children
    lifts_here end dealt =
        turns g v.vars (All-nil (λ w. (y : Var) → Occurs y w → Contains v.vars y)) (narrowed v) at left next share_none apart (map substitution solved.unifiers) (complete_for r drawn next at left given solved a end)
        (All-weaker (Contains (map substitution solved.unifiers)) (IsOverNew next problem) over_new (map substitution solved.unifiers) (All-contains_itself (map substitution solved.unifiers)))
        children
        (All-weaker (Contains (map substitution solved.unifiers)) (IsTurned g v.vars (narrowed v) children) turned (map substitution solved.unifiers) (All-contains_itself (map substitution solved.unifiers)))
      where
        turned : (u : Substitution) → Contains (map substitution solved.unifiers) u → IsTurned g v.vars (narrowed v) children u
        turned u i =
            let p = map_contains substitution solved.unifiers u i in
            subst (IsTurned g v.vars (narrowed v) children) p.1.1 (turned_by p.0 p.1.0 (All-contains (λ s. IsDealtWith r v members s children) solved.unifiers p.0 dealt p.1.0))

  -- without a unifier nothing meets
  pub nothing_meets : solved.end ≡ Complete → solved.unifiers ≡ [] → (children : List Variant) → LiftsAt g v.vars (narrowed v) at left children
  nothing_meets end none children =
      turns g v.vars (All-nil (λ w. (y : Var) → Occurs y w → Contains v.vars y)) (narrowed v) at left next share_none apart (map substitution solved.unifiers) (complete_for r drawn next at left given solved a end)
      (All-weaker (Contains (map substitution solved.unifiers)) (IsOverNew next problem) over_new (map substitution solved.unifiers) (All-contains_itself (map substitution solved.unifiers)))
      children
      (subst (λ l. All (IsTurned g v.vars (narrowed v) children) (map substitution l)) (sym none) (All-nil (IsTurned g v.vars (narrowed v) children)))
