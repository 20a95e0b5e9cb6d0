-- Explorations: what a search for variants kept, what it gives, and why it ended.
-- S. Escobar, R. Sasse and J. Meseguer, Folding variant narrowing and optimal variant termination, 2012.
use Rattle.std.specs.Prelude.{◌≡◌, ◌≤◌, ◌<◌, ◌⊎◌, ℕ, List, [], ◌∷◌, ◌++◌, length, map, All, Any, Contains}
use Rattle.fvn_terms.specs.declared.plain.Var.{Var}
use Rattle.fvn_terms.specs.Term.{Term}
use Rattle.fvn_terms.specs.Substitution.{Substitution, Occurs}
use Rattle.fvn_terms.specs.Unifiers.{Problem}
use Rattle.fvn_terms.specs.Rewriting.{IsTerminating, IsConfluent}
use Rattle.fvn_terms.specs.Variants.{IsVariant, IsWithin, Covers, OccursInSome}
use Rattle.fvn_forms.specs.Flat.{FlatTerm, plain}
use Rattle.fvn_flat.specs.Solving.{substitution}
use Rattle.fvn_flat.specs.declared.solver.Pairs.{Pairs}
use Rattle.fvn_cover.specs.declared.variant.Variant.{Variant}
use Rattle.fvn_cover.specs.Pruning.{IsPruned, IsCoveredBySome}
use Rattle.fvn_exploring.specs.declared.limits.Limits.{Limits}
use Rattle.fvn_exploring.specs.declared.ends.Deep.{Deep}
use Rattle.fvn_exploring.specs.declared.ends.Explored.{Explored}
use Rattle.fvn_exploring.specs.declared.ends.ExploreEnd.{ExploreEnd}
use Rattle.fvn_exploring.specs.declared.ends.ExploreEnd.TheVariants.{Complete, Levels, Variants}
use Rattle.fvn_exploring.specs.declared.ends.ExploreEnd.TheVariants.{Steps, Size, Basis, Unifiers}
use Rattle.fvn_exploring.specs.Setting.{Setting, AreLawfulIn}
use Rattle.fvn_exploring.specs.Children.{IsMember, IsChild}
use Rattle.fvn_exploring.specs.Causes.{IsStepsCause, IsSizeCause, IsSystemCause, IsUnifiersCause}
use Rattle.fvn_exploring.specs.Causes.{IsOfSuccessor, IsNarrowingProblem}
use Rattle.fvn_exploring.specs.LevelRuns.{AreVariablesOf, IsLevelRun}

-- the kept variants without their levels
abbrev pub variants_of : List Deep → List Variant
variants_of kept = map (λ m. m.variant) kept

-- some kept member is deeper than so many levels
abbrev pub IsDeeper : List Deep → ℕ → Type 0
IsDeeper kept k = Any (λ m. k < m.depth) kept

-- one of the variants covers these terms with this substitution
abbrev pub IsCovered : Setting → List Variant → List Term → Substitution → Type 0
IsCovered g list us s =
    Any (λ v. Covers g.declarations v.vars (map plain v.terms) (substitution v.subst) us s) list

-- a problem that was given to the solver for one of the kept variants
abbrev pub IsPosed : Setting → List Deep → Pairs → Type 0
IsPosed g kept given = Any (λ m. IsNarrowingProblem g m.variant given) kept

module _ (g : Setting) (start : List FlatTerm) where
  -- the fixed terms have no variables but those of the start
  abbrev pub AreOverStart : Type 0
  AreOverStart = All (λ t. (y : Var) → Occurs y t → OccursInSome y (map plain start)) g.fixed

  -- under this substitution the start is brought to these terms, as a variant
  abbrev pub IsVariantOf : List Term → Substitution → Type 0
  IsVariantOf us s = IsVariant g.declarations g.equations g.fixed (map plain start) us s

  -- no sequence from the instance of the start has more steps than this
  abbrev pub IsStartWithin : ℕ → Substitution → Type 0
  IsStartWithin k s = IsWithin g.declarations g.equations k (map plain start) s

  -- a variant of the start over all of its variables, with what every member keeps
  pub record IsFound (v : Variant) : Type 0 where
    pub vars : AreVariablesOf start v.vars
    pub variant : IsVariantOf (map plain v.terms) (substitution v.subst)
    pub member : IsMember g v

module _ (g : Setting) (drawn : Problem → Substitution → Type 0) (start : List FlatTerm) where
  -- a term of the start, or of a successor of one of the kept variants
  abbrev pub IsTold : List Deep → FlatTerm → Type 0
  IsTold kept t = Contains start t ⊎ Any (λ m. IsOfSuccessor g drawn m.variant t) kept

  -- a child of a member of this level that no kept and no given variant covers
  pub record IsBelowLevel (level : ℕ) (x : Explored) (v : Variant) : Type 0 where
    pub parent : Deep
    pub listed : Contains x.kept parent
    pub depth : parent.depth ≡ level
    pub child : IsChild g drawn parent.variant v
    pub kept : IsCoveredBySome g.declarations (variants_of x.kept) v → ⊥
    pub given : IsCoveredBySome g.declarations x.variants v → ⊥

  -- so many are kept, and this one could follow them
  pub record IsOneMore (most : ℕ) (kept : List Deep) (v : Variant) : Type 0 where
    pub full : length kept ≡ most
    pub depth : ℕ
    pub run : IsLevelRun g drawn start (kept ++ record { variant = v; depth = depth } ∷ [])

  module _ (limits : Limits) (x : Explored) where
    -- why an exploration came to this end
    abbrev pub IsExploreCause : ExploreEnd → Type 0
    IsExploreCause Complete = Unit {0}
    IsExploreCause (Levels v) = IsBelowLevel limits.levels x v
    IsExploreCause (Variants v) = IsOneMore limits.variants x.kept v
    IsExploreCause (Steps from to) = IsStepsCause g drawn (IsPosed g x.kept) (IsTold x.kept) from to
    IsExploreCause (Size cause) = IsSizeCause g drawn (IsPosed g x.kept) (IsTold x.kept) cause
    IsExploreCause (Basis f system) = IsSystemCause g drawn (IsPosed g x.kept) (IsTold x.kept) f system
    IsExploreCause (Unifiers given list) = IsUnifiersCause g drawn (IsPosed g x.kept) (IsTold x.kept) given list

    -- some kept member is deeper than k, or the exploration ended at its last level, which is k
    abbrev pub ReachesPast : ℕ → Type 0
    ReachesPast k = IsDeeper x.kept k ⊎ ((v : Variant) × (x.end ≡ Levels v) × (k ≡ limits.levels))

    -- what an exploration promises
    pub record IsExploration : Type 0 where
      -- what the equations keep, and over which variables the fixed terms are
      pub lawful : AreLawfulIn g
      pub fixed : AreOverStart g start
      -- the kept members, no more and no deeper than is allowed; of them those are given that no other covers
      pub run : IsLevelRun g drawn start x.kept
      pub few : length x.kept ≤ limits.variants
      pub shallow : All (λ m. m.depth ≤ limits.levels) x.kept
      pub pruned : IsPruned g.declarations (variants_of x.kept) x.variants
      -- each given one is a variant of the start
      pub found : All (IsFound g start) x.variants
      -- at Complete every variant is covered; else those that few steps lead to
      pub complete : x.end ≡ Complete
          → IsTerminating g.declarations g.equations → IsConfluent g.declarations g.equations
          → (us : List Term) (s : Substitution) → IsVariantOf g start us s → IsCovered g x.variants us s
      pub within : IsConfluent g.declarations g.equations → (k : ℕ) → ReachesPast k
          → (us : List Term) (s : Substitution) → IsVariantOf g start us s → IsStartWithin g start k s
          → IsCovered g x.variants us s
      -- every other end has its cause
      pub cause : IsExploreCause x.end
