-- What the solver's answer and the tests of its unifiers show of an overlap.
use Rattle.std.proofs.Common.{◌≡◌, ◌<◌, ℕ, [], ◌∷◌, map, length, Some, None, refl, sym, ap, subst}
use Rattle.std.specs.Prelude.{Option, All, Contains}
use Rattle.std.proofs.lemmas.List.Elements.{All-contains, All-weaker, All-contains_itself}
use Rattle.fvn_base.proofs.Membership.{map_contains}
use Rattle.fvn_terms.specs.declared.plain.Var.{Var}
use Rattle.fvn_terms.specs.declared.declarations.Declarations.{Declarations}
use Rattle.fvn_terms.specs.Term.{var}
use Rattle.fvn_terms.specs.Substitution.{Substitution}
use Rattle.fvn_terms.specs.Unifiers.{Problem, IsUnifier}
use Rattle.fvn_forms.specs.Flat.{FlatTerm, plain}
use Rattle.fvn_forms.specs.Good.{IsGood}
use Rattle.fvn_signature.specs.Queries.{IsCompleted}
use Rattle.fvn_flat.specs.Bindings.{Bindings, bound, form_or, BindsOnce, BindingsFit}
use Rattle.fvn_flat.specs.OneAnswer.{IsCompleteFor}
use Rattle.fvn_flat.specs.Problems.{variables_of, plain_pairs}
use Rattle.fvn_flat.specs.Solving.{substitution, problem_of, symbols_of_pairs, Binds, IsNumbered, AreUnifiers, AreDrawn, AreBindings, AreNumbered, AreApart, AreComplete, IsCause, HasCause, IsTooLarge}
use Rattle.fvn_flat.specs.declared.solver.Pairs.{Pairs}
use Rattle.fvn_flat.specs.declared.solver.Solved.{Solved}
use Rattle.fvn_flat.specs.declared.solver.SolveEnd.{SolveEnd}
use Rattle.fvn_flat.specs.declared.solver.SolveEnd.TheVariants.{Complete, Basis as BasisThere, Unifiers as UnifiersThere, Size as SizeThere}
use Rattle.fvn_flat.specs.declared.solver.SizeCause.TheVariants.{Problem as OfProblem, Binding, Term as OfTerm}
use Rattle.fvn_rewrite.specs.Usable.{Rewriting, AreUsable, equations_by}
use Rattle.fvn_lifting.specs.Meetings.{IsOverNew}
use Rattle.fvn_critical_pairs.specs.Overlaps.{Overlap, overlap_problem, IsOverlap, JoinsUnder, Joins}
use Rattle.fvn_critical_pairs.specs.Laws.{UnifiersDecideOverlaps}
use Rattle.fvn_critical.specs.Faults.{IsOverlapProblem}
use Rattle.fvn_critical.specs.inner.Ends.{fault_after}
use Rattle.fvn_critical.specs.inner.Testing.{IsDrawnFor, TestedAs, AllJoin}
use Rattle.fvn_critical.proofs.Forms.{used_by}

-- what is not bound stays
unbound_stays : (problem : Problem) (s : Bindings) → Binds problem s → (x : Var) → (Contains (variables_of problem) x → ⊥) → substitution s x ≡ var x
unbound_stays problem s binds x none = go (bound s x) refl
  where
    go : (o : Option FlatTerm) → bound s x ≡ o → plain (form_or x (bound s x)) ≡ var x
    go None e = ap (λ o. plain (form_or x o)) e
    go (Some t) e = absurd (none ((binds x).1 (t, e)))

-- what a solver promises of the problem of an overlap
pub record IsAnswered (r : Rewriting) (drawn : Problem → Substitution → Type 0) (next : ℕ) (o : Overlap) (given : Pairs) (solved : Solved) : Type 0 where
  pub given_is : given.pairs ≡ (o.at, o.inner.left) ∷ []
  pub sound : AreUnifiers r.signature given solved
  pub drawn_all : AreDrawn r.signature given drawn solved
  pub binds : AreBindings r.signature given solved
  pub fresh : AreNumbered r.signature given next solved
  pub apart : AreApart r.signature given solved
  pub complete : AreComplete r.signature given solved

-- the solver promises it of its own signature, which is that of the rules
pub answered_so : (r : Rewriting) (drawn : Problem → Substitution → Type 0) (next : ℕ) (o : Overlap) (given : Pairs) (solved : Solved) → given.pairs ≡ (o.at, o.inner.left) ∷ [] →
    (d : Declarations) → d ≡ r.signature → AreUnifiers d given solved → AreDrawn d given drawn solved → AreBindings d given solved → AreNumbered d given next solved → AreApart d given solved →
    AreComplete d given solved → IsAnswered r drawn next o given solved
answered_so r drawn next o given solved given_is d same sound drawn_all binds fresh apart complete = record {
  given_is = given_is;
  sound = subst (λ e. AreUnifiers e given solved) same sound;
  drawn_all = drawn_all;
  binds = subst (λ e. AreBindings e given solved) same binds;
  fresh = subst (λ e. AreNumbered e given next solved) same fresh;
  apart = subst (λ e. AreApart e given solved) same apart;
  complete = subst (λ e. AreComplete e given solved) same complete;
}

module _ (r : Rewriting) (drawn : Problem → Substitution → Type 0) (next : ℕ) (o : Overlap) (given : Pairs) (solved : Solved) (a : IsAnswered r drawn next o given solved) where
  abbrev d : Declarations
  d = r.signature

  problem_is : problem_of given ≡ overlap_problem o
  problem_is = ap plain_pairs a.given_is

  -- each unifier may be drawn for the overlap
  drawn_for : (s : Bindings) → Contains solved.unifiers s → IsDrawnFor r drawn o s
  drawn_for s i = record {
    unifies = subst (λ p. IsUnifier d p (substitution s)) problem_is (All-contains (λ s. IsUnifier d (problem_of given) (substitution s)) solved.unifiers s a.sound i);
    is_drawn = subst (λ p. drawn p (substitution s)) problem_is (All-contains (λ s. drawn (problem_of given) (substitution s)) solved.unifiers s a.drawn_all i);
    fits = (All-contains (λ s. Binds (problem_of given) s × BindsOnce s × BindingsFit d s) solved.unifiers s a.binds i).2;
  }

  pub all_drawn : All (IsDrawnFor r drawn o) solved.unifiers
  all_drawn = All-weaker (Contains solved.unifiers) (IsDrawnFor r drawn o) drawn_for solved.unifiers (All-contains_itself solved.unifiers)

  over_new : (u : Substitution) → Contains (map substitution solved.unifiers) u → IsOverNew next (overlap_problem o) u
  over_new u i =
      let p = map_contains substitution solved.unifiers u i in
      let binds = subst (λ q. Binds q p.0) problem_is (All-contains (λ s. Binds (problem_of given) s × BindsOnce s × BindingsFit d s) solved.unifiers p.0 a.binds p.1.0).0 in
      let numbered = subst (λ q. IsNumbered next solved.next_fresh q p.0) problem_is (All-contains (IsNumbered next solved.next_fresh (problem_of given)) solved.unifiers p.0 a.fresh p.1.0) in
      subst (IsOverNew next (overlap_problem o)) p.1.1 record {
        others_stay = λ x n. unbound_stays (overlap_problem o) p.0 binds x n;
        new = λ y w. let n = numbered w.0 y w.1 w.2 in (n.0, n.1);
      }

  all_over_new : All (IsOverNew next (overlap_problem o)) (map substitution solved.unifiers)
  all_over_new =
      All-weaker (Contains (map substitution solved.unifiers)) (IsOverNew next (overlap_problem o)) over_new (map substitution solved.unifiers) (All-contains_itself (map substitution solved.unifiers))

  module _ (good : IsGood r.signature) (completed : IsCompleted r.signature) (usable : AreUsable r.signature r.rules) (decide : UnifiersDecideOverlaps) (is : IsOverlap r.signature r.rules next o)
      (unifiers most : ℕ) (size : most ≡ r.bounds.size) (cause : HasCause r.signature given unifiers most solved) (tested : AllJoin r o solved.unifiers) where
    joined : (u : Substitution) → Contains (map substitution solved.unifiers) u → JoinsUnder d (equations_by r) o u
    joined u i =
        let p = map_contains substitution solved.unifiers u i in
        subst (JoinsUnder d (equations_by r) o) p.1.1 (All-contains (λ s. JoinsUnder d (equations_by r) o (substitution s)) solved.unifiers p.0 tested p.1.0)

    complete_for : solved.end ≡ Complete → IsCompleteFor d (overlap_problem o) (map substitution solved.unifiers)
    complete_for e = subst (λ p. IsCompleteFor d p (map substitution solved.unifiers)) problem_is (a.complete e)

    joins : solved.end ≡ Complete → Joins d (equations_by r) o
    joins e =
        decide d r.rules (used_by r good completed usable) next o is (map substitution solved.unifiers) (complete_for e) all_over_new
        (All-weaker (Contains (map substitution solved.unifiers)) (JoinsUnder d (equations_by r) o) joined (map substitution solved.unifiers) (All-contains_itself (map substitution solved.unifiers)))

    posed : IsOverlapProblem r given
    posed = record { next = next; overlap = o; overlaps = is; is = a.given_is }

    -- the end of the answer
    at_end : (e : SolveEnd) → solved.end ≡ e → IsCause d given unifiers most (length solved.unifiers) e → TestedAs r drawn unifiers (Joins d (equations_by r) o) (fault_after given solved.unifiers e)
    at_end Complete q h = joins q
    at_end (BasisThere f system) q h = record { given = given; posed = posed; basis = h }
    at_end UnifiersThere q h = record { posed = posed; many = h; unifiers = a.sound; are_drawn = a.drawn_all; apart = a.apart }
    at_end (SizeThere (OfProblem other)) q h =
        (subst (IsOverlapProblem r) (sym h.0) posed, subst (λ n. n < symbols_of_pairs other.pairs) size (subst (λ (p : Pairs). most < symbols_of_pairs p.pairs) (sym h.0) h.1))
    at_end (SizeThere (Binding list)) q h = record { given = given; posed = posed; large = subst (λ n. IsTooLarge d given n list.bindings) size h }
    at_end (SizeThere (OfTerm w)) q h = absurd h

    pub answered : TestedAs r drawn unifiers (Joins d (equations_by r) o) (fault_after given solved.unifiers solved.end)
    answered = at_end solved.end refl cause
