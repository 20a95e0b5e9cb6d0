-- What one rule gives at one part, from the solver's answer and from what its unifiers make.
use Rattle.std.proofs.Common.{◌≡◌, ◌<◌, ℕ, List, [], ◌∷◌, map, length, None, Some, refl, sym, ap, ◌∙◌, subst, inl, inr}
use Rattle.std.specs.Prelude.{◌⊎◌, ◌≢◌, All, Contains}
use Rattle.std.proofs.lemmas.List.Elements.{All-nil, All-weaker, All-contains}
use Rattle.fvn_base.proofs.Membership.{map_contains}
use Rattle.fvn_terms.specs.declared.plain.Var.{Var}
use Rattle.fvn_terms.specs.declared.declarations.Declarations.{Declarations}
use Rattle.fvn_terms.specs.Theory.{Equations}
use Rattle.fvn_terms.specs.Signature.{kind, IsSort}
use Rattle.fvn_terms.specs.Substitution.{Substitution, Occurs}
use Rattle.fvn_terms.specs.Unifiers.{Problem}
use Rattle.fvn_terms.specs.Rewriting.{BringsNoVariable}
use Rattle.fvn_terms.specs.Laws.{RewritingLaws}
use Rattle.fvn_forms.specs.Flat.{FlatTerm, plain}
use Rattle.fvn_forms.specs.Canon.{canon, inst}
use Rattle.fvn_forms.specs.Good.{IsGood}
use Rattle.fvn_forms.proofs.Eval.{canon_plain}
use Rattle.fvn_forms.proofs.Instances.{inst_settled}
use Rattle.fvn_signature.specs.Queries.{IsCompleted}
use Rattle.fvn_flat.specs.Bindings.{Bindings, value}
use Rattle.fvn_flat.specs.Fits.{Fits}
use Rattle.fvn_flat.specs.Forms.{head_of}
use Rattle.fvn_flat.specs.Problems.{variables_of, flat_pairs}
use Rattle.fvn_flat.specs.Solving.{symbols_of_pairs, IsCause, HasCause, IsTooLarge}
use Rattle.fvn_flat.specs.Successors.{renamed_form, renamed_problem}
use Rattle.fvn_flat.specs.declared.solver.Pairs.{Pairs}
use Rattle.fvn_flat.specs.declared.solver.Solved.{Solved}
use Rattle.fvn_flat.specs.declared.solver.SolveEnd.{SolveEnd}
use Rattle.fvn_flat.specs.declared.solver.SolveEnd.TheVariants.{Complete, Basis as BasisThere, Unifiers as UnifiersThere, Size as SizeThere}
use Rattle.fvn_flat.specs.declared.solver.SizeCause.TheVariants.{Problem as OfProblem, Binding, Term as OfTerm}
use Rattle.fvn_flat.proofs.Instances.{inst_fits}
use Rattle.fvn_cover.specs.declared.variant.Variant.{Variant}
use Rattle.fvn_rewrite_laws.specs.Laws.{ListLaws, RuleLaws}
use Rattle.fvn_rewrite.specs.Usable.{Rewriting, AreUsable, equations_by}
use Rattle.fvn_exploring.specs.Setting.{Setting}
use Rattle.fvn_exploring.specs.Children.{narrowed}
use Rattle.fvn_exploring.specs.Causes.{IsRuleProblem}
use Rattle.fvn_exploring.specs.declared.ends.ExpandEnd.{ExpandEnd}
use Rattle.fvn_exploring.specs.declared.ends.ExpandEnd.TheVariants.{Whole, Steps, Size, Basis, Unifiers}
use Rattle.fvn_exploring.specs.declared.ends.Expansion.{Expansion}
use Rattle.fvn_narrow_children.specs.Growing.{IsRaw, IsGrown, StopsAt}
use Rattle.fvn_places.proofs.PathFacts.{stands_at}
use Rattle.fvn_lifting.specs.Lifted.{LiftsAt}
use Rattle.fvn_lifting.specs.Laws.{SuccessorsAreSteps, TurnsLift}
use Rattle.fvn_narrow.specs.Settings.{narrowing_setting}
use Rattle.fvn_narrow.specs.inner.Ends.{end_after, solver_end, AreEnded}
use Rattle.fvn_narrow.specs.inner.Turns.{Turn, put_in, IsReady, AreMembers, AreGrownAt, IsStepChild, IsOfStep, EndsAs, try_of, TryLifts, AreFound}
use Rattle.fvn_narrow.proofs.Turning.{problem_at, IsFitTurn, IsGivenIn}
use Rattle.fvn_narrow.proofs.Steps.{same_form, same_names, old_is_not_new, successor, step_from}
use Rattle.fvn_narrow.proofs.Children.{item_listed, member_fits, is_step_child}
use Rattle.fvn_narrow.proofs.RuleTurn.{IsAnswered, given_in, at_numbered, lifts_here, nothing_meets}

module _ (r : Rewriting) (good : IsGood r.signature) (completed : IsCompleted r.signature) (usable : AreUsable r.signature r.rules) (brings_none : BringsNoVariable (equations_by r)) (rewriting : RewritingLaws r.signature (equations_by r))
    (lists : ListLaws r.signature (equations_by r)) (rules : RuleLaws r.signature (equations_by r)) (steps : SuccessorsAreSteps) (turns : TurnsLift)
    (unifiers : ℕ) (drawn : Problem → Substitution → Type 0) (v : Variant) (next : ℕ) (ready : IsReady r v next) (at : FlatTerm) (turn : Turn) (t : IsFitTurn r v at turn)
    (given : Pairs) (solved : Solved) (a : IsAnswered r drawn next at turn.rule.left given solved) (most : ℕ) (size : most ≡ r.bounds.size) (cause : HasCause r.signature given unifiers most solved) where
  abbrev d : Declarations
  d = r.signature

  abbrev equations : Equations
  equations = equations_by r

  abbrev g : Setting
  g = narrowing_setting r unifiers

  abbrev left : FlatTerm
  left = turn.rule.left

  abbrev Posed : Pairs → Type 0
  Posed = IsRuleProblem g v.terms

  abbrev Told : FlatTerm → Type 0
  Told = IsOfStep g drawn v

  -- the problem that was given to the solver
  posed : Posed given
  posed = record {
    at = at;
    part = record {
      term = t.turn_is.term;
      listed = item_listed v.terms turn.member t.turn_is.term t.turn_is.is;
      whole = t.turn_is.whole;
      at_place = stands_at turn.path t.turn_is.term t.turn_is.whole t.turn_is.leads;
      beside = turn.beside;
      part = t.turn_is.part;
      no_variable = λ x e. let q : None ≡ Some t.turn_is.operator = sym (ap head_of e) ∙ t.turn_is.heads in cc;
    };
    l = left;
    r = turn.rule.right;
    rule = t.rule;
    by = λ x. x;
    renames = same_names d (λ x. Occurs x (plain left));
    apart = λ x o i. old_is_not_new x next (t.old x (inl o)) (at_numbered r good completed usable brings_none rewriting lists rules steps turns unifiers drawn v next ready at turn t given solved a x i);
    problem = (plain at, plain (renamed_form d (λ x. x) left)) ∷ [];
    is_problem = refl;
    before = λ x. x;
    renames_problem = same_names d (Contains (variables_of ((plain at, plain (renamed_form d (λ x. x) left)) ∷ [])));
    is = a.given_is ∙ sym flat_again;
  }
    where
      flat_again : flat_pairs d (renamed_problem (λ x. x) ((plain at, plain (renamed_form d (λ x. x) left)) ∷ [])) ≡ (at, left) ∷ []
      flat_again =
          ap (λ p. (renamed_form d (λ x. x) at, renamed_form d (λ x. x) p) ∷ []) (same_form d left t.left_fits.flat)
          ∙ ap (λ p. (renamed_form d (λ x. x) at, p) ∷ []) (same_form d left t.left_fits.flat)
          ∙ ap (λ p. (p, left) ∷ []) (same_form d at t.at_fits.flat)

  -- the end to which the answer leads has its cause
  solver_cause : (e : SolveEnd) → IsCause d given unifiers most (length solved.unifiers) e → EndsAs g drawn Posed Told (end_after given solved.unifiers e)
  solver_cause Complete h = tt
  solver_cause (BasisThere f system) h = record { given = given; posed = posed; basis = h }
  solver_cause UnifiersThere h = record { posed = posed; many = h; unifiers = a.sound; are_drawn = a.drawn_all; apart = a.apart }
  solver_cause (SizeThere (OfProblem other)) h =
      (subst Posed (sym h.0) posed, subst (λ n. n < symbols_of_pairs other.pairs) size (subst (λ (p : Pairs). most < symbols_of_pairs p.pairs) (sym h.0) h.1))
  solver_cause (SizeThere (Binding list)) h = record { given = given; posed = posed; large = subst (λ n. IsTooLarge d given n list.bindings) size h }
  solver_cause (SizeThere (OfTerm w)) h = absurd h

  module _ (members : List FlatTerm) (m : AreMembers d v.terms turn.member turn.path (put_in d turn) members) (s : Bindings) (u : IsGivenIn r drawn next (problem_at at left) s) where
    told : (w : FlatTerm) → IsRaw r v members s w → Told w
    told w h = record {
      successor = successor r good drawn v next ready at turn t members m s u;
      step = step_from r good drawn v next ready at turn t members m s u;
      is = is h;
    }
      where
        is : IsRaw r v members s w → Contains (map (inst d (value s)) members) w ⊎ ((x : Var) × Contains v.vars x × (w ≡ canon d (plain (inst d (value s) (value v.subst x)))))
        is (inl c) = inl c
        is (inr k) = inr (k.0, k.1, k.2 ∙ sym (canon_plain d (inst d (value s) (value v.subst k.0)) (inst_settled d (value s) u.fits.settled (value v.subst k.0))))

    raw_fits : (w : FlatTerm) → IsRaw r v members s w → Fits d w
    raw_fits w (inl c) =
        let p = map_contains (inst d (value s)) members w c in
        subst (Fits d) p.1.1 (inst_fits d (value s) good u.fits p.0 (member_fits r good brings_none rewriting lists rules unifiers drawn v next ready at turn t members m s u p.0 p.1.0))
    raw_fits w (inr k) = subst (Fits d) (sym k.2) (inst_fits d (value s) good u.fits (value v.subst k.0) record {
      flat = ready.flat.values.settled k.0;
      kinded = (kind d k.0.sort, ready.flat.values.keeps_kinds k.0 (All-contains (λ (y : Var). IsSort d y.sort) v.vars k.0 ready.flat.vars k.1));
    })

    -- so has the end at which the unifier's child stopped
    child_cause : (end : ExpandEnd) → StopsAt r (IsRaw r v members s) end → EndsAs g drawn Posed Told end
    child_cause Whole h = absurd h
    child_cause (Steps start end) h = record { told = told start h.told; fits = raw_fits start h.told; reached = h.reached; reducible = h.reducible }
    child_cause (Size (OfProblem other)) h = absurd h
    child_cause (Size (Binding list)) h = absurd h
    child_cause (Size (OfTerm end)) h = record { start = h.start; told = told h.start h.told; steps = h.count; reached = h.reached; large = h.large }
    child_cause (Basis f system) h = absurd h
    child_cause (Unifiers other list) h = absurd h

  module _ (grown e : Expansion) (here : AreGrownAt r v turn solved.unifiers grown) (ended : AreEnded given solved grown e) where
    -- the children
    grown_children : AreGrownAt r v turn solved.unifiers grown → All (IsStepChild g drawn v) grown.children
    grown_children (inl n) = subst (All (IsStepChild g drawn v)) (sym n.1) (All-nil (IsStepChild g drawn v))
    grown_children (inr w) = All-weaker (λ c. (s : Bindings) × Contains solved.unifiers s × IsGrown r v w.0 s c) (IsStepChild g drawn v) (λ c k. child c k.0 k.1 k.2) grown.children w.2.children
      where
        child : (c : Variant) (s : Bindings) → Contains solved.unifiers s → IsGrown r v w.0 s c → IsStepChild g drawn v c
        child c s i k = is_step_child r good brings_none rewriting lists rules unifiers drawn v next ready at turn t w.0 w.1 s (given_in r drawn next at left given solved a s i) c k

    -- at a whole end the answer was complete
    was_complete : (q : SolveEnd) → end_after given solved.unifiers q ≡ Whole → q ≡ Complete
    was_complete Complete k = refl
    was_complete (BasisThere f system) k = cc
    was_complete UnifiersThere k = cc
    was_complete (SizeThere why) k = cc

    ends : e.end ≡ Whole → (grown.end ≡ Whole) × (solved.end ≡ Complete)
    ends whole = go ended.end
      where
        go : ((grown.end ≡ Whole) × (e.end ≡ solver_end given solved)) ⊎ ((grown.end ≢ Whole) × (e.end ≡ grown.end)) → (grown.end ≡ Whole) × (solved.end ≡ Complete)
        go (inl k) = (k.0, was_complete solved.end (sym k.1 ∙ whole))
        go (inr k) = absurd (k.0 (sym k.1 ∙ whole))

    lifts : e.end ≡ Whole → LiftsAt g v.vars (narrowed v) at left e.children
    lifts whole = subst (LiftsAt g v.vars (narrowed v) at left) (sym ended.children) (go here)
      where
        both : (grown.end ≡ Whole) × (solved.end ≡ Complete)
        both = ends whole

        go : AreGrownAt r v turn solved.unifiers grown → LiftsAt g v.vars (narrowed v) at left grown.children
        go (inl n) = nothing_meets r good completed usable brings_none rewriting lists rules steps turns unifiers drawn v next ready at turn t given solved a both.1 n.0 grown.children
        go (inr w) = lifts_here r good completed usable brings_none rewriting lists rules steps turns unifiers drawn v next ready at turn t given solved a w.0 w.1 grown.children both.1 (w.2.whole both.0)

    why : EndsAs g drawn Posed Told e.end
    why = go ended.end here
      where
        of_grown : AreGrownAt r v turn solved.unifiers grown → (grown.end ≢ Whole) → EndsAs g drawn Posed Told grown.end
        of_grown (inl n) other = absurd (other n.2)
        of_grown (inr w) other = stopped w.2.cause
          where
            stopped : (grown.end ≡ Whole) ⊎ ((s : Bindings) × Contains solved.unifiers s × StopsAt r (IsRaw r v w.0 s) grown.end) → EndsAs g drawn Posed Told grown.end
            stopped (inl k) = absurd (other k)
            stopped (inr k) = child_cause w.0 w.1 k.0 (given_in r drawn next at left given solved a k.0 k.1) grown.end k.2

        go : ((grown.end ≡ Whole) × (e.end ≡ solver_end given solved)) ⊎ ((grown.end ≢ Whole) × (e.end ≡ grown.end)) → AreGrownAt r v turn solved.unifiers grown → EndsAs g drawn Posed Told e.end
        go (inl k) w = subst (EndsAs g drawn Posed Told) (sym k.1) (solver_cause solved.end cause)
        go (inr k) w = subst (EndsAs g drawn Posed Told) (sym k.1) (of_grown w k.0)

    -- what is found in this turn
    pub found_here : AreFound r unifiers drawn v (TryLifts r unifiers v (try_of at turn.rule)) e
    found_here = record {
      children = subst (All (IsStepChild g drawn v)) (sym ended.children) (grown_children here);
      whole = lifts;
      cause = why;
    }
