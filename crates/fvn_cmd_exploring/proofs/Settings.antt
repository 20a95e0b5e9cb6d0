-- What is explored in a module is explored in its setting.
use Rattle.std.proofs.Common.{◌≡◌, ℕ, List, [], refl, sym, ap, ◌∙◌, subst}
use Rattle.fvn_base.specs.declared.limits.TheConstants.{TERM_SYMBOLS, UNIFIERS}
use Rattle.fvn_terms.specs.declared.declarations.Declarations.{Declarations}
use Rattle.fvn_terms.specs.Substitution.{Substitution}
use Rattle.fvn_terms.specs.Unifiers.{Problem}
use Rattle.fvn_forms.specs.Flat.{FlatTerm}
use Rattle.fvn_flat.specs.Drawn.{IsDrawn}
use Rattle.fvn_module.specs.Contents.{Contents}
use Rattle.fvn_theory.specs.declared.bounds.Bounds.{Bounds}
use Rattle.fvn_theory.specs.Equations.{equations_of}
use Rattle.fvn_rewrite.specs.Usable.{Rewriting}
use Rattle.fvn_rewrite_rules.specs.Given.{RuleLists}
use Rattle.fvn_exploring.specs.declared.limits.Limits.{Limits}
use Rattle.fvn_exploring.specs.declared.ends.Explored.{Explored}
use Rattle.fvn_exploring.specs.declared.ends.ExploreEnd.{ExploreEnd}
use Rattle.fvn_exploring.specs.declared.ends.ExploreEnd.TheVariants.{Complete, Levels, Variants, Steps, Size, Basis, Unifiers}
use Rattle.fvn_exploring.specs.Setting.{Setting}
use Rattle.fvn_exploring.specs.Explorations.{IsExploreCause, IsExploration}
use Rattle.fvn_closure.specs.Laws.{ExplorationsAreLawful}
use Rattle.fvn_narrow.specs.Settings.{narrowing_setting}
use Rattle.fvn_cmd_words.specs.declared.reach.Reach.{Reach}
use Rattle.fvn_cmd_exploring.specs.Searches.{setting_of, limits_of, IsExploredBy, IsSearched}

module _ (m : Contents) (reach : Reach) where
  abbrev pub bounds_of : Bounds
  bounds_of = record { steps = reach.steps; size = TERM_SYMBOLS }

  -- what narrows with the module's rules does so in its setting
  module _ (d : Declarations) (signature_is : d ≡ m.signature) where
    pub setting_is : (rules : RuleLists) → rules.equations ≡ m.equations → (r : Rewriting) → r ≡ record { signature = d; rules = rules; bounds = bounds_of } → (most : ℕ) → most ≡ UNIFIERS → narrowing_setting r most ≡ setting_of m reach
    setting_is rules equations r is most most_is =
        ap (λ x. narrowing_setting x most) is
        ∙ (λ i. record { declarations = signature_is i; equations = equations_of (equations i); fixed = []; bounds = bounds_of; unifiers = most_is i })

    pub drawn_is : (own : Declarations) → own ≡ d → IsDrawn own ≡ IsDrawn m.signature
    drawn_is own same = ap IsDrawn (same ∙ signature_is)

  -- the limits, one by one
  pub limits_are : (workers : ℕ) (limits : Limits) → limits.levels ≡ reach.levels → limits.variants ≡ reach.variants → limits.steps ≡ reach.steps → limits.size ≡ TERM_SYMBOLS → limits.workers ≡ workers → limits ≡ limits_of m reach workers
  limits_are workers limits a b c e f = λ i. record { levels = a i; variants = b i; steps = c i; size = e i; workers = f i }

  -- an exploration does not speak of workers
  module _ (drawn : Problem → Substitution → Type 0) (start : List FlatTerm) (x : Explored) (workers : ℕ) where
    cause_free : (end : ExploreEnd) → IsExploreCause (setting_of m reach) drawn start (limits_of m reach workers) x end → IsExploreCause (setting_of m reach) drawn start (limits_of m reach 1) x end
    cause_free Complete c = c
    cause_free (Levels v) c = c
    cause_free (Variants v) c = c
    cause_free (Steps from to) c = c
    cause_free (Size cause) c = c
    cause_free (Basis f system) c = c
    cause_free (Unifiers given list) c = c

    workers_free : IsExploration (setting_of m reach) drawn start (limits_of m reach workers) x → IsExploration (setting_of m reach) drawn start (limits_of m reach 1) x
    workers_free e = record {
      lawful = e.lawful;
      fixed = e.fixed;
      run = e.run;
      few = e.few;
      shallow = e.shallow;
      pruned = e.pruned;
      found = e.found;
      complete = e.complete;
      within = e.within;
      cause = cause_free x.end e.cause;
    }

    -- what was explored in a setting that is the module's
    module _ (g : Setting) (setting : g ≡ setting_of m reach) where
      pub explored_in : (limits : Limits) → limits ≡ limits_of m reach workers → IsExploration g drawn start limits x → IsExploration (setting_of m reach) drawn start (limits_of m reach 1) x
      explored_in limits is e = workers_free (subst (λ y. IsExploration (setting_of m reach) drawn start y x) is (subst (λ y. IsExploration y drawn start limits x) setting e))

      pub explored_by : (limits : Limits) → limits ≡ limits_of m reach workers → IsExploration g drawn start limits x → ExplorationsAreLawful g drawn → IsExploredBy m reach drawn start x
      explored_by limits is e laws = record { explored = explored_in limits is e; laws = subst (λ y. ExplorationsAreLawful y drawn) setting laws }

  -- a solver modulo the axioms draws as the module's does
  pub drawn_by : (start : List FlatTerm) (x : Explored) (drawn : Problem → Substitution → Type 0) → drawn ≡ IsDrawn m.signature → IsExploredBy m reach drawn start x → IsSearched m reach start x
  drawn_by start x drawn is e = subst (λ y. IsExploredBy m reach y start x) is e

-- what is explored with one solver is so with the same one by another name
module _ {S : Type 0} (draws : S → Problem → Substitution → Type 0) (a b : S) (same : a ≡ b) (g : Setting) where
  pub explored_along : (start : List FlatTerm) (limits : Limits) (x : Explored) → IsExploration g (draws a) start limits x → IsExploration g (draws b) start limits x
  explored_along start limits x h = subst (λ z. IsExploration g (draws z) start limits x) same h

  pub lawful_along : ExplorationsAreLawful g (draws a) → ExplorationsAreLawful g (draws b)
  lawful_along h = subst (λ z. ExplorationsAreLawful g (draws z)) same h
