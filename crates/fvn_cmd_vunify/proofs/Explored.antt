-- What is solved in an exploration of the sides of pairs in a module.
use Rattle.std.proofs.Common.{◌≡◌, ℕ, List, sym, subst, inl, inr}
use Rattle.fvn_terms.specs.Substitution.{Substitution}
use Rattle.fvn_terms.specs.Unifiers.{Problem}
use Rattle.fvn_flat.specs.Drawn.{IsDrawn}
use Rattle.fvn_forms.specs.Flat.{FlatTerm}
use Rattle.fvn_flat.specs.Problems.{plain_pairs, IsProblem as AreOfKinds}
use Rattle.fvn_flat.specs.Solving.{FlatPairs}
use Rattle.fvn_module.specs.Contents.{Contents}
use Rattle.fvn_exploring.specs.declared.limits.Limits.{Limits}
use Rattle.fvn_exploring.specs.declared.ends.Explored.{Explored}
use Rattle.fvn_exploring.specs.Setting.{Setting}
use Rattle.fvn_exploring.specs.Explorations.{IsExploration}
use Rattle.fvn_closure.specs.Laws.{ExplorationsAreLawful}
use Rattle.fvn_vunify.specs.declared.solved.SolvedModulo.{SolvedModulo}
use Rattle.fvn_vunify.specs.Sides.{sides_in_turn}
use Rattle.fvn_vunify.specs.Solved.{IsOfSomePairs, IsSolvedFor}
use Rattle.fvn_vunify.specs.AtOnce.{IsSolvedAtOnce, IsSolvedAtOnceFor}
use Rattle.fvn_cmd_words.specs.declared.reach.Reach.{Reach}
use Rattle.fvn_cmd_exploring.specs.Searches.{setting_of, limits_of}
use Rattle.fvn_cmd_exploring.proofs.Settings.{explored_in}
use Rattle.fvn_cmd_vunify.specs.inner.Steps.{AreSides, IsSolvedBy, IsSolvedIn}

module _ (m : Contents) (reach : Reach) (pairs : FlatPairs) (sides : AreSides m.signature pairs) (g : Setting) (setting : g ≡ setting_of m reach) (drawn : Problem → Substitution → Type 0) (x : Explored) where
  -- the sides were explored in the setting of what narrows
  pub of_pairs : (start : List FlatTerm) → start ≡ sides_in_turn pairs → (limits : Limits) → IsExploration g drawn start limits x → IsOfSomePairs g drawn x
  of_pairs start is limits e = record {
    pairs = pairs;
    limits = limits;
    explored = record {
      kinds = subst (λ y. AreOfKinds y.declarations (plain_pairs pairs)) (sym setting) sides.kinds;
      exploration = subst (λ l. IsExploration g drawn l limits x) is e;
    };
  }

  pub solved_in : (workers : ℕ) (start : List FlatTerm) → start ≡ sides_in_turn pairs → (limits : Limits) → limits ≡ limits_of m reach workers → IsExploration g drawn start limits x → ExplorationsAreLawful g drawn → (r : SolvedModulo) → IsSolvedFor g drawn x r → IsSolvedBy m reach drawn pairs r
  solved_in workers start is limits limits_are e laws r solved =
      let own = subst (λ l. IsExploration (setting_of m reach) drawn l (limits_of m reach 1) x) is (explored_in m reach drawn start x workers g setting limits limits_are e) in
      let there : IsSolvedFor (setting_of m reach) drawn x r = subst (λ y. IsSolvedFor y drawn x r) setting solved in
      inl (record {
        explored = x;
        exploration = own;
        laws = subst (λ y. ExplorationsAreLawful y drawn) setting laws;
        solved = there pairs (limits_of m reach 1) (record { kinds = sides.kinds; exploration = own });
      })

-- pairs that are solved at once in the setting of what narrows are so in that of the module
pub at_once_in : (m : Contents) (reach : Reach) (pairs : FlatPairs) (drawn : Problem → Substitution → Type 0) (g : Setting) → g ≡ setting_of m reach → (start : List FlatTerm) → start ≡ sides_in_turn pairs → (r : SolvedModulo) →
    IsSolvedAtOnceFor g start r → IsSolvedBy m reach drawn pairs r
at_once_in m reach pairs drawn g setting start is r h = inr (subst (λ y. IsSolvedAtOnce y pairs r) setting (h pairs is))

-- what is solved with a solver is so with the same one by another name
pub solved_along : {S : Type 0} (draws : S → Problem → Substitution → Type 0) (a b : S) → a ≡ b → (m : Contents) (reach : Reach) (pairs : FlatPairs) (r : SolvedModulo) →
    IsSolvedBy m reach (draws a) pairs r → IsSolvedBy m reach (draws b) pairs r
solved_along draws a b same m reach pairs r h = subst (λ z. IsSolvedBy m reach (draws z) pairs r) same h

-- the solver modulo the axioms of the module
pub solved_by_own : (m : Contents) (reach : Reach) (pairs : FlatPairs) (r : SolvedModulo) (drawn : Problem → Substitution → Type 0) → drawn ≡ IsDrawn m.signature → IsSolvedBy m reach drawn pairs r → IsSolvedIn m reach pairs r
solved_by_own m reach pairs r drawn is h = subst (λ y. IsSolvedBy m reach y pairs r) is h
