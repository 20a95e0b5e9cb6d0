-- What variants are explored in.
use Rattle.std.specs.Prelude.{◌≡◌, ◌≤◌, ℕ, List, []}
use Rattle.fvn_base.specs.declared.limits.TheConstants.{TERM_SYMBOLS, UNIFIERS}
use Rattle.fvn_terms.specs.declared.declarations.Declarations.{Declarations}
use Rattle.fvn_terms.specs.Substitution.{Substitution}
use Rattle.fvn_terms.specs.Unifiers.{Problem}
use Rattle.fvn_terms.specs.Rewriting.{IsTerminating, IsConfluent}
use Rattle.fvn_forms.specs.Flat.{FlatTerm}
use Rattle.fvn_flat.specs.Drawn.{IsDrawn}
use Rattle.fvn_module.specs.Contents.{Contents}
use Rattle.fvn_theory.specs.Equations.{equations_of}
use Rattle.fvn_cover.specs.declared.marking.TheConstants.{WORKERS}
use Rattle.fvn_rewrite.specs.Usable.{AreUsable}
use Rattle.fvn_rewrite_rules.specs.Given.{RuleLists}
use Rattle.fvn_exploring.specs.declared.limits.Limits.{Limits}
use Rattle.fvn_exploring.specs.declared.ends.Explored.{Explored}
use Rattle.fvn_exploring.specs.Setting.{Setting}
use Rattle.fvn_exploring.specs.Explorations.{IsExploration}
use Rattle.fvn_closure.specs.Laws.{ExplorationsAreLawful}
use Rattle.fvn_cmd_words.specs.declared.reach.Reach.{Reach}

-- one variant at least may be kept
abbrev pub KeepsSome : Reach → Type 0
KeepsSome reach = 1 ≤ reach.variants

-- what is trusted of the equations of a module: that they terminate and are confluent
abbrev pub AreTrusted : Contents → Type 0
AreTrusted m = IsTerminating m.signature (equations_of m.equations) × IsConfluent m.signature (equations_of m.equations)

module _ (m : Contents) (reach : Reach) where
  -- the signature and the equations of the module, and the limits; no term is asked to stay irreducible
  abbrev pub setting_of : Setting
  setting_of = record {
    declarations = m.signature;
    equations = equations_of m.equations;
    fixed = [];
    bounds = record { steps = reach.steps; size = TERM_SYMBOLS };
    unifiers = UNIFIERS;
  }

  -- how far is explored, by so many workers
  abbrev pub limits_of : ℕ → Limits
  limits_of workers = record {
    levels = reach.levels;
    variants = reach.variants;
    steps = reach.steps;
    size = TERM_SYMBOLS;
    workers = workers;
  }

  -- these forms were explored so far; the number of workers makes no difference
  abbrev pub AreExplored : List FlatTerm → Explored → Type 0
  AreExplored start x = IsExploration setting_of (IsDrawn m.signature) start (limits_of 1) x

-- a number of workers that may be asked for
pub record AreSomeWorkers (workers : ℕ) : Type 0 where
  pub one : 1 ≤ workers
  pub few : workers ≤ WORKERS

-- the rules are those of the module, whose equations are admissible
pub record AreRulesOf (m : Contents) (rules : RuleLists) : Type 0 where
  pub usable : AreUsable m.signature rules
  pub equations : rules.equations ≡ m.equations

-- the rules are those of the module, and the limits can be kept to
pub record IsSearchable (m : Contents) (rules : RuleLists) (reach : Reach) (workers : ℕ) : Type 0 where
  pub usable : AreUsable m.signature rules
  pub equations : rules.equations ≡ m.equations
  pub keeps : KeepsSome reach
  pub workers_are : AreSomeWorkers workers

-- a solver with this signature and these limits is one for the module
pub record IsModuleSolver (m : Contents) (d : Declarations) (unifiers symbols : ℕ) : Type 0 where
  pub signature : d ≡ m.signature
  pub unifiers_are : unifiers ≡ UNIFIERS
  pub symbols_are : symbols ≡ TERM_SYMBOLS

-- what was explored, with a solver that may draw so, and what is known of such explorations
pub record IsExploredBy (m : Contents) (reach : Reach) (drawn : Problem → Substitution → Type 0) (start : List FlatTerm)
    (x : Explored) : Type 0 where
  pub explored : IsExploration (setting_of m reach) drawn start (limits_of m reach 1) x
  pub laws : ExplorationsAreLawful (setting_of m reach) drawn

-- the same with the solver modulo the axioms
abbrev pub IsSearched : Contents → Reach → List FlatTerm → Explored → Type 0
IsSearched m reach = IsExploredBy m reach (IsDrawn m.signature)
