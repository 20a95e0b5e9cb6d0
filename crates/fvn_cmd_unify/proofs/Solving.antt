-- What the solver's answer to the flattened pairs says of the problem.
use Rattle.std.proofs.Common.{◌≡◌, ℕ, ◌≤◌, List, map, length, refl, sym, ap, ◌∙◌, subst}
use Rattle.std.specs.Prelude.{All, Any}
use Rattle.std.proofs.lemmas.List.{length-map}
use Rattle.std.proofs.lemmas.List.Elements.{All-map, All-weaker}
use Rattle.fvn_base.specs.declared.limits.TheConstants.{TERM_SYMBOLS, UNIFIERS}
use Rattle.fvn_base.proofs.Membership.{contains_map}
use Rattle.fvn_terms.specs.declared.plain.OpId.{OpId}
use Rattle.fvn_terms.specs.declared.plain.Plain.{Plain}
use Rattle.fvn_terms.specs.declared.declarations.Declarations.{Declarations}
use Rattle.fvn_terms.specs.Substitution.{Substitution}
use Rattle.fvn_terms.specs.Unifiers.{IsUnifier}
use Rattle.fvn_lindio.specs.declared.system.System.{System}
use Rattle.fvn_terms.specs.CompleteSets.{IsCompleteSet, IsApart}
use Rattle.fvn_terms.proofs.Instances.{shortest_unifiers}
use Rattle.fvn_forms.specs.Flat.{FlatTerm}
use Rattle.fvn_forms.specs.FitsKinds.{FitsKinds}
use Rattle.fvn_flat.specs.Bindings.{BindsOnce, BindingsFit}
use Rattle.fvn_flat.specs.Drawn.{IsDrawn}
use Rattle.fvn_flat.specs.Laws.{AnswersToFlattenedPairs, FlattenedPairsAreGiven, FlattenedPairsHaveOneAnswer}
use Rattle.fvn_flat.specs.OneAnswer.{IsCompleteFor, IsApartFor, HaveOneAnswer}
use Rattle.fvn_flat.specs.PlainPairs.{IsAnswerTo}
use Rattle.fvn_flat.specs.Problems.{plain_pairs, flat_pairs}
use Rattle.fvn_flat.specs.Solving.{IsGiven, Binds, IsCause, problem_of, substitution}
use Rattle.fvn_flat.specs.declared.solver.Pairs.{Pairs}
use Rattle.fvn_flat.specs.declared.solver.Solved.{Solved}
use Rattle.fvn_flat.specs.declared.solver.SolveEnd.{SolveEnd}
use Rattle.fvn_flat.specs.declared.solver.SolveEnd.TheVariants.{Complete as AllFound, Basis as NoBasis, Unifiers as Full, Size as TooLarge}
use Rattle.fvn_problems.specs.declared.problem.Problem.{Problem}
use Rattle.fvn_problems.specs.Problems.{AreOfOneKind, HasVariables}
use Rattle.fvn_module.specs.Contents.{Contents}
use Rattle.fvn_axunify.specs.Solved.{IsSolvedAs}
use Rattle.fvn_axunify.specs.Exact.{IsExact}
use Rattle.fvn_axunify.specs.Searched.{IsAnswered}
use Rattle.fvn_axunify.specs.Coarser.{HoldsCoarserOnes}
use Rattle.fvn_answer.specs.Answers.{FitsEnd}
use Rattle.fvn_answer.specs.Asked.{HaveSorts}
use Rattle.fvn_answer.specs.declared.end.End.TheVariants.{Complete, Basis, Size, Unifiers}
use Rattle.fvn_answer.proofs.Declared.{associative-declared}
use Rattle.fvn_cmd.specs.Causes.{HasTooMany}
use Rattle.fvn_cmd.specs.Headline.{AreAll}
use Rattle.fvn_cmd_unify.specs.Asked.{pairs_of, Unifies, IsInstanceOf, flattened, AreFlattened, unifiers_of}
use Rattle.fvn_cmd_unify.specs.Ends.{IsCauseOf}
use Rattle.fvn_cmd_unify.specs.Coarser.{HasCoarserOnes}
use Rattle.fvn_cmd_unify.specs.Solutions.{Found, IsSolution}
use Rattle.fvn_cmd_unify.specs.inner.Told.{end_told}
use Rattle.fvn_cmd_unify.specs.inner.Steps.{IsSolved}
use Rattle.fvn_cmd_unify.proofs.Flattening.{pairs_of-problem}
use Rattle.fvn_cmd_unify.proofs.Asking.{instance-on_vars, instance-on_pairs, problem-room}

-- what is known of a signature is known of the module's
module _ (m : Contents) (p : Problem) (d : Declarations) (signature_is : d ≡ m.signature) (pairs : List (Plain × Plain)) (pairs_are : pairs ≡ p.pairs) (given : Pairs) (is : given.pairs ≡ flat_pairs d (pairs_of pairs)) where
  these-flattened : AreFlattened m p given
  these-flattened = subst (λ x. given.pairs ≡ flat_pairs m.signature (pairs_of x)) pairs_are (subst (λ x. given.pairs ≡ flat_pairs x (pairs_of pairs)) signature_is is)

  pub given-to_solver : FlattenedPairsAreGiven → FitsKinds d → All (AreOfOneKind m.signature) p.pairs → HasVariables m.signature p → (own : Declarations) → own ≡ d → IsGiven own given 0
  given-to_solver law fits kinded vars own same =
      let fitting : FitsKinds m.signature = subst FitsKinds signature_is fits in
      subst (λ x. IsGiven x given 0) (sym (same ∙ signature_is)) (law m.signature fitting (pairs_of p.pairs) (pairs_of-problem m.signature p.pairs kinded) given these-flattened 0 (problem-room m.signature p vars))

  pub solver-answer : (own : Declarations) → own ≡ d → (most : ℕ) → most ≡ UNIFIERS → (size : ℕ) → size ≡ TERM_SYMBOLS → (r : Solved) → IsSolvedAs own given 0 most size r → IsExact given 0 most size r → HoldsCoarserOnes own given r → IsSolved m p r
  solver-answer own same most most_is size size_is r a exact coarser = record {
    given = given;
    flattened = these-flattened;
    answer =
        subst (λ x. IsSolvedAs m.signature given 0 UNIFIERS x r) size_is
        (subst (λ x. IsSolvedAs m.signature given 0 x size r) most_is (subst (λ x. IsSolvedAs x given 0 most size r) (same ∙ signature_is) a));
    exact = subst (λ x. IsExact given 0 UNIFIERS x r) size_is (subst (λ x. IsExact given 0 x size r) most_is exact);
    coarser = subst (λ x. HoldsCoarserOnes x given r) (same ∙ signature_is) coarser;
  }

-- where it is told that all are found, they are
told-complete : (e : SolveEnd) (count n : ℕ) → end_told e count ≡ Complete n → e ≡ AllFound
told-complete AllFound count n h = refl
told-complete (NoBasis f system) count n h = cc
told-complete Full count n h = cc
told-complete (TooLarge cause) count n h = cc

-- the limit is told where the solver met it
told-full : (e : SolveEnd) (count : ℕ) → end_told e count ≡ Unifiers UNIFIERS → e ≡ Full
told-full AllFound count h = cc
told-full (NoBasis f system) count h = cc
told-full Full count h = refl
told-full (TooLarge cause) count h = cc

-- a sum system is told where the solver met it
told-basis : (e : SolveEnd) (count : ℕ) (f : OpId) → end_told e count ≡ Basis f → (system : System) × (e ≡ NoBasis f system)
told-basis AllFound count f h = absurd (let q : Complete count ≡ Basis f = h in cc)
told-basis (NoBasis g system) count f h = (system, ap (λ x. NoBasis x system) (let q : Basis g ≡ Basis f = h in cc))
told-basis Full count f h = absurd (let q : Unifiers UNIFIERS ≡ Basis f = h in cc)
told-basis (TooLarge cause) count f h = absurd (let q : Size TERM_SYMBOLS ≡ Basis f = h in cc)

module _ (m : Contents) (p : Problem) (kinded : All (AreOfOneKind m.signature) p.pairs) (vars : HasVariables m.signature p) (r : Solved) (s : IsSolved m p r) where
  abbrev values : List Substitution
  values = map substitution r.unifiers

  count-is : length r.unifiers ≡ length values
  count-is = sym (length-map r.unifiers substitution)

  -- where the limit is met, as many are kept as may be
  too-many : length r.unifiers ≡ UNIFIERS → HasTooMany m.signature (AreFlattened m p)
  too-many full = record {
    given = s.given;
    is_given = s.flattened;
    kept = values;
    sound = All-map (IsUnifier m.signature (problem_of s.given)) substitution r.unifiers s.answer.sound;
    drawn = All-map (IsDrawn m.signature (problem_of s.given)) substitution r.unifiers s.answer.drawn;
    apart = s.answer.apart;
    count = sym count-is ∙ full;
  }

  told-cause : (e : SolveEnd) → IsCause m.signature s.given UNIFIERS TERM_SYMBOLS (length r.unifiers) e → IsCauseOf m p values (end_told e (length r.unifiers))
  told-cause AllFound c = count-is
  told-cause (NoBasis f system) c = record { given = s.given; is_given = s.flattened; system = system; cause = c }
  told-cause Full c = (refl, too-many c)
  told-cause (TooLarge cause) c = (refl, record { given = s.given; is_given = s.flattened; cause = cause; large = c })

  told-fits : (e : SolveEnd) → IsCause m.signature s.given UNIFIERS TERM_SYMBOLS (length r.unifiers) e → FitsEnd m.signature (end_told e (length r.unifiers))
  told-fits AllFound c = tt
  told-fits (NoBasis f system) c = associative-declared m.signature f c.is_system.associative
  told-fits Full c = tt
  told-fits (TooLarge cause) c = tt

  pub solved-fits : FitsEnd m.signature (end_told r.end (length r.unifiers))
  solved-fits = told-fits r.end s.answer.cause

  pub solved-bindings : All (BindingsFit m.signature) r.unifiers
  solved-bindings = All-weaker (λ b. Binds (problem_of s.given) b × BindsOnce b × BindingsFit m.signature b) (BindingsFit m.signature) (λ b h. h.2) r.unifiers s.answer.binds

  pub solved-sorts : All (HaveSorts m.signature p.vars) r.unifiers
  solved-sorts = All-weaker (λ b. IsUnifier m.signature (problem_of s.given) (substitution b)) (HaveSorts m.signature p.vars) (λ b h x c. h.0.1 x) r.unifiers s.answer.sound

  drawn : All (IsDrawn m.signature (flattened m p)) values
  drawn =
      let P : List (FlatTerm × FlatTerm) → Type 0 = λ pairs. All (λ b. IsDrawn m.signature (plain_pairs pairs) (substitution b)) r.unifiers in
      All-map (IsDrawn m.signature (flattened m p)) substitution r.unifiers (subst P s.flattened s.answer.drawn)

  apart-on_vars : IsApartFor m.signature (pairs_of p.pairs) values → IsApart (IsInstanceOf m p) values
  apart-on_vars h i j x l w =
      let a = h i j x l w in
      (λ k. a.0 (instance-on_pairs m.signature p vars _ _ k), λ k. a.1 (instance-on_pairs m.signature p vars _ _ k))

  complete-on_vars : IsCompleteFor m.signature (pairs_of p.pairs) values → IsCompleteSet (Unifies m p) (IsInstanceOf m p) values
  complete-on_vars h = record {
    sound = h.sound;
    complete = λ u is. let a = h.complete u is in (a.0, a.1, a.2, a.3, instance-on_vars m.signature p vars u a.1 a.4);
  }

  all-of : IsApart (IsInstanceOf m p) values → IsCompleteSet (Unifies m p) (IsInstanceOf m p) values → AreAll (unifiers_of m p) values
  all-of apart complete = record {
    complete = complete.complete;
    shortest = shortest_unifiers m.signature p.vars (pairs_of p.pairs) values complete apart;
  }

  module _ (one : HaveOneAnswer m.signature (pairs_of p.pairs) (problem_of s.given)) where
    -- what the solver's answer holds is an instance of one of the values
    answered-one : (u : Substitution) → IsAnswered m.signature s.given r u → Any (IsInstanceOf m p u) values
    answered-one u h =
        let c = contains_map substitution r.unifiers h.1 (h.0, h.2, h.3) in
        (c.0, substitution h.1, c.1, c.2, instance-on_vars m.signature p vars u (substitution h.1) ((one.instances u (substitution h.1)).1 h.4))

    coarser-ones : (f : OpId) → end_told r.end (length r.unifiers) ≡ Basis f → HasCoarserOnes m p values f
    coarser-ones f e =
        let t = told-basis r.end (length r.unifiers) f e in
        let h = s.coarser f t.0 t.1 in
        record {
          given = s.given;
          is_given = s.flattened;
          system = t.0;
          at = h.at;
          held = λ u unifies joins some. answered-one u (h.held u ((one.unifiers u).0 unifies) joins some);
        }

  -- what is told of what was found
  abbrev pub told-found : Found
  told-found = record { values = values; end = end_told r.end (length r.unifiers) }

  -- the answer to the flattened pairs is one to the problem
  pub solved-solution : AnswersToFlattenedPairs → FlattenedPairsHaveOneAnswer → FitsKinds m.signature → IsSolution m p told-found
  solved-solution law one_law fits =
      let P : List (FlatTerm × FlatTerm) → Type 0 = λ pairs. HaveOneAnswer m.signature (pairs_of p.pairs) (plain_pairs pairs) in
      let one = subst P (sym s.flattened) (one_law m.signature fits (pairs_of p.pairs) (pairs_of-problem m.signature p.pairs kinded)) in
      let a : IsAnswerTo m.signature (pairs_of p.pairs) values (r.end ≡ AllFound) =
      law m.signature fits (pairs_of p.pairs) (pairs_of-problem m.signature p.pairs kinded) s.given s.flattened r s.answer.sound s.answer.apart s.answer.complete in
      let apart = apart-on_vars a.apart in
      record {
        headline = record {
          sound = a.sound;
          apart = apart;
          all = λ e trusted. all-of apart (complete-on_vars (a.complete (told-complete r.end (length r.unifiers) (length values) e)));
        };
        drawn = drawn;
        cause = told-cause r.end s.answer.cause;
        few = subst (λ n. n ≤ UNIFIERS) count-is s.exact.unifiers.few;
        full = (
          λ e. sym count-is ∙ s.exact.unifiers.full.0 (told-full r.end (length r.unifiers) e),
          λ e. ap (λ x. end_told x (length r.unifiers)) (s.exact.unifiers.full.1 (count-is ∙ e)),
        );
        coarser = coarser-ones one;
      }
