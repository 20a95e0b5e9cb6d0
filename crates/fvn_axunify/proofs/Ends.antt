-- A search that goes on, and one that ends.
use Rattle.std.proofs.Common.{◌≡◌, ◌<◌, ◌≤◌, ◌⊎◌, ℕ, false, List, [], ◌∷◌, length, ◌∙◌, refl, sym, subst, ap, inl, inr, arith, All}
use Rattle.std.proofs.lemmas.List.Elements.{All-nil, All-cons, All-weaker}
use Rattle.fvn_terms.specs.declared.plain.Var.{Var}
use Rattle.fvn_terms.specs.declared.plain.OpId.{OpId}
use Rattle.fvn_terms.specs.declared.declarations.Declarations.{Declarations}
use Rattle.fvn_terms.specs.Substitution.{Substitution}
use Rattle.fvn_terms.specs.Sorts.{IsWellSorted}
use Rattle.fvn_terms.specs.Unifiers.{IsUnifier, IsInstance}
use Rattle.fvn_terms.proofs.Instances.{IsInstance-trans}
use Rattle.fvn_lindio.specs.declared.system.System.{System}
use Rattle.fvn_flat.specs.Bindings.{Bindings, value}
use Rattle.fvn_flat.specs.Problems.{variables_of}
use Rattle.fvn_flat.specs.Solving.{substitution, problem_of, IsTooLarge}
use Rattle.fvn_flat.specs.SolvedLists.{IsKindUnifier}
use Rattle.fvn_flat.specs.declared.solver.Pairs.{Pairs}
use Rattle.fvn_flat.specs.declared.solver.SolveEnd.{SolveEnd}
use Rattle.fvn_flat.specs.declared.solver.SolveEnd.TheVariants.{Complete, Basis, Unifiers, Size}
use Rattle.fvn_flat.specs.declared.solver.SizeCause.TheVariants.{Problem, Binding, Term}
use Rattle.fvn_combine.specs.CombineChoicesCovering.{CoversOnKinds}
use Rattle.fvn_combine.specs.CombineDrawingOnKinds.{IsGivenOnKinds}
use Rattle.fvn_combine.specs.Tasks.{StandsFor, HoldsFor}
use Rattle.fvn_combine.specs.Search.{Search}
use Rattle.fvn_combine.specs.Coarser.{IsFinerToCome, Joins, JoinsMore}
use Rattle.fvn_combine.specs.Advancing.{IsOf, IsToCome, IsCovered, IsGivenNext}
use Rattle.fvn_cover.specs.declared.variant.Variant.{Variant}
use Rattle.fvn_cover.proofs.Leftovers.{any_contains, any_of}
use Rattle.fvn_axunify.specs.inner.Asked.{IsAsked}
use Rattle.fvn_axunify.specs.inner.Members.{IsKept, AreKept, IsReached, IsWithAll}
use Rattle.fvn_axunify.specs.inner.Nexts.{IsLast, AsksForAllAtRefusal, IsNoRefusal}
use Rattle.fvn_axunify.specs.Coarser.{HoldsCoarser}
use Rattle.fvn_axunify.specs.Searched.{EndsSo, IsHeldWhole, IsRun, IsRunToEnd, IsSearched}
use Rattle.fvn_axunify.specs.inner.Found.{IsFound}

-- a search that has given nothing, of which nothing is kept
module _ (d : Declarations) (given : Pairs) (vars : List Var) (kept : List Variant) (none : kept ≡ []) where
  pub kept_none : (first : ℕ) → AreKept d given vars first kept
  kept_none first = subst (AreKept d given vars first) (sym none) (record {
    members = All-nil (IsKept d given vars first);
    apart = λ i j e l n. absurd (omega (arith, n));
  })

  pub few_none : (most : ℕ) → 1 ≤ most → length kept < most
  few_none most some = let n = ap length none in omega (arith, n, some)

  pub run_begun : (start : Search) → IsRun d given (IsReached d given vars kept) start start
  run_begun start = record { gave = []; in_turn = refl; whole = All-nil (IsHeldWhole d given (IsReached d given vars kept)) }

-- what a search did last
pub ends_so : (last now : Search) (end : SolveEnd) → AsksForAllAtRefusal last end → IsLast last now end → EndsSo last now end
ends_so last now Complete settled h = h
ends_so last now (Basis f system) settled h = (h, settled)
ends_so last now Unifiers settled h = absurd h
ends_so last now (Size (Problem p)) settled h = h
ends_so last now (Size (Binding list)) settled h = h
ends_so last now (Size (Term t)) settled h = h

-- a later state of a search asks for no other unifiers
pub settled_along : (m after : Search) → after.combining.general ≡ m.combining.general → (end : SolveEnd) → AsksForAllAtRefusal m end → AsksForAllAtRefusal after end
settled_along m after same Complete h = h
settled_along m after same (Basis f system) h = same ∙ h
settled_along m after same Unifiers h = h
settled_along m after same (Size cause) h = h

-- an end that is no refused sum system is settled, and each is where all unifiers are asked for
pub no_refusal_settled : (m : Search) (end : SolveEnd) → IsNoRefusal end → AsksForAllAtRefusal m end
no_refusal_settled m Complete h = h
no_refusal_settled m (Basis f system) h = absurd h
no_refusal_settled m Unifiers h = h
no_refusal_settled m (Size cause) h = h

pub every_settled : (m : Search) → m.combining.general ≡ false → (end : SolveEnd) → AsksForAllAtRefusal m end
every_settled m every Complete = tt
every_settled m every (Basis f system) = every
every_settled m every Unifiers = tt
every_settled m every (Size cause) = tt

-- what is held is held by more
module _ (d : Declarations) (given : Pairs) (Few More : Substitution → Type 0) (more : (u : Substitution) → Few u → More u) where
  pub still_whole : (gave : List Bindings) → All (IsHeldWhole d given Few) gave → All (IsHeldWhole d given More) gave
  still_whole = All-weaker (IsHeldWhole d given Few) (IsHeldWhole d given More) (λ g w u i c. more u (w u i c))

  pub still_run : (start now : Search) → IsRun d given Few start now → IsRun d given More start now
  still_run start now h = record {
    gave = h.gave;
    in_turn = h.in_turn;
    whole = still_whole h.gave h.whole;
  }

  pub still_coarser : (f : OpId) (system : System) → HoldsCoarser d given Few f system → HoldsCoarser d given More f system
  still_coarser f system h = record { at = h.at; held = λ u i joins some. more u (h.held u i joins some) }

  pub still_searched : (first size : ℕ) (end : SolveEnd) → IsSearched d given Few first size end → IsSearched d given More first size end
  still_searched first size end h = record {
    start = h.start;
    now = h.now;
    of = h.of;
    all = h.all;
    run = record { last = h.run.last; run = still_run h.start h.run.last h.run.run; ended = h.run.ended };
  }

module _ (d : Declarations) (given : Pairs) (vars : List Var) (first most size : ℕ) (m after : Search) (of : IsOf d given first size m) where
  -- an end, with its cause
  pub end_found : (kept : List Variant) → AreKept d given vars first kept → length kept < most →
      ((u : Substitution) → IsUnifier d (problem_of given) u → IsReached d given vars kept u ⊎ IsToCome m u) →
      (end : SolveEnd) → AsksForAllAtRefusal m end → IsLast m after end → IsFound d given vars first most size kept end
  end_found kept are few all Complete settled last = record { are = are; end_of = (few, λ u h. elim (all u h) [ inl r ↦ r | inr t ↦ absurd (last.none u t) ]) }
  end_found kept are few all (Basis f system) settled last = record { are = are; end_of = (few, record { at = finer.at; held = held }) }
    where
      finer : IsFinerToCome d given f system (IsToCome after)
      finer = subst (λ g. IsFinerToCome d g f system (IsToCome after)) of.problem (subst (λ e. IsFinerToCome e m.combining.given f system (IsToCome after)) of.declarations (last.3 settled))

      held : (u : Substitution) → IsUnifier d (problem_of given) u → Joins d (problem_of given) finer.at.cause.class u → JoinsMore d given f system finer.at u → IsReached d given vars kept u
      held u h joins some = elim (all u h) [
        | inl r ↦ r
        | inr t ↦ absurd (finer.finer u ((last.4.kept u).0 t) joins some)
      ]
  end_found kept are few all Unifiers settled last = absurd last
  end_found kept are few all (Size (Problem p)) settled last = absurd last
  end_found kept are few all (Size (Binding list)) settled last =
      record {
        are = are;
        end_of = (few, subst (λ n. IsTooLarge d given n list.bindings) of.limit (subst (λ g. IsTooLarge d g m.combining.size list.bindings) of.problem (subst (λ e. IsTooLarge e m.combining.given m.combining.size list.bindings) of.declarations last.0)));
      }
  end_found kept are few all (Size (Term t)) settled last = absurd last

  -- u is reached where a unifier that stands for it is
  stands_reached : IsAsked d given vars first → (u v : Substitution) → StandsFor m.combining u v → (list : List Variant) → IsReached d given vars list v → IsReached d given vars list u
  stands_reached asked u v stands list reached =
      let k = any_contains (λ w. IsInstance d vars v (substitution w.subst)) list reached in
      any_of (λ w. IsInstance d vars u (substitution w.subst)) list k.0 k.1.0 (IsInstance-trans d vars u v (substitution k.0.subst) on_vars k.1.1)
    where
      here : IsInstance d (variables_of (problem_of given)) u v
      here = subst (λ p. IsInstance d (variables_of (problem_of p)) u v) of.problem (subst (λ e. IsInstance e (variables_of (problem_of m.combining.given)) u v) of.declarations stands.more_general.instance)

      on_vars : IsInstance d vars u v
      on_vars = record { after = here.after; well_sorted = here.well_sorted; equal = λ x c. here.equal x ((asked.variables x).0 c) }

  -- a unifier on kinds that stands for a unifier is one
  stands_unifies : (u v : Substitution) → StandsFor m.combining u v → IsUnifier d (problem_of given) u → IsUnifier d (problem_of given) v
  stands_unifies u v stands h = (sorted, here.1)
    where
      sorted : IsWellSorted d v
      sorted = subst (λ e. IsWellSorted e u → IsWellSorted e v) of.declarations stands.more_general.well_sorted h.0

      here : IsKindUnifier d (problem_of given) v
      here = subst (λ p. IsKindUnifier d (problem_of p) v) of.problem (subst (λ e. IsKindUnifier e (problem_of m.combining.given) v) of.declarations stands.wanted.unifies)

  module _ (g : Bindings) (next : IsGivenNext m after g) where
    -- what is given is given for this problem
    pub given_here : IsGivenOnKinds d given first size g
    given_here =
        subst (λ n. IsGivenOnKinds d given first n g) of.limit
        (subst (λ n. IsGivenOnKinds d given n m.combining.size g) of.number
        (subst (λ p. IsGivenOnKinds d p m.combining.first m.combining.size g) of.problem
        (subst (λ e. IsGivenOnKinds e m.combining.given m.combining.first m.combining.size g) of.declarations next.given)))

    module _ (same : after.combining ≡ m.combining) where
      pub of_after : IsOf d given first size after
      of_after = record {
        declarations = ap (λ k. k.declarations) same ∙ of.declarations;
        problem = ap (λ k. k.given) same ∙ of.problem;
        number = ap (λ k. k.first) same ∙ of.number;
        limit = ap (λ k. k.size) same ∙ of.limit;
        running = next.running;
      }

    -- each unifier is reached, or still to come
    pub goes_on : IsAsked d given vars first → (kept with_g : List Variant) → IsWithAll d given vars first most kept g with_g → length with_g < most →
        ((u : Substitution) → IsUnifier d (problem_of given) u → IsReached d given vars kept u ⊎ IsToCome m u) →
        (u : Substitution) → IsUnifier d (problem_of given) u → IsReached d given vars with_g u ⊎ IsToCome after u
    goes_on asked kept with_g w few all u h =
        elim (all u h) [
          | inl r ↦ inl (w.grows u r)
          | inr t ↦ elim (next.covers u t) [ inl c ↦ inl (reached c) | inr s ↦ inr s ]
        ]
      where
        here : (v : Substitution) → IsCovered m.combining g v → CoversOnKinds d (variables_of (problem_of given)) (value g) v
        here v c = subst (λ p. CoversOnKinds d (variables_of (problem_of p)) (value g) v) of.problem (subst (λ e. CoversOnKinds e (variables_of (problem_of m.combining.given)) (value g) v) of.declarations c)

        reached : HoldsFor m.combining (IsCovered m.combining g) u → IsReached d given vars with_g u
        reached (v, stands, c) = stands_reached asked u v stands with_g (w.covered few v (stands_unifies u v stands h) (here v c))

    -- below the limit what is given now is held whole too
    pub run_on : (start : Search) (kept with_g : List Variant) → IsWithAll d given vars first most kept g with_g → length with_g < most → IsRun d given (IsReached d given vars kept) start m
        → IsRun d given (IsReached d given vars with_g) start after
    run_on start kept with_g w few run = record {
      gave = g ∷ run.gave;
      in_turn = (m, run.in_turn, next);
      whole = All-cons (IsHeldWhole d given (IsReached d given vars with_g)) g run.gave (w.covered few)
          (still_whole d given (IsReached d given vars kept) (IsReached d given vars with_g) w.grows run.gave run.whole);
    }

    -- at the limit the search ends with what is given now
    pub run_full : (start : Search) (kept with_g : List Variant) → IsWithAll d given vars first most kept g with_g → IsRun d given (IsReached d given vars kept) start m
        → IsRunToEnd d given (IsReached d given vars with_g) start after Unifiers
    run_full start kept with_g w run = record {
      last = m;
      run = still_run d given (IsReached d given vars kept) (IsReached d given vars with_g) w.grows start m run;
      ended = (g, next);
    }
