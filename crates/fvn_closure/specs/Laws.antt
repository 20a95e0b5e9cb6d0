-- Laws of closed levels and of explorations.
use Rattle.std.specs.Prelude.{◌≡◌, ℕ, List, map, All, Any, Contains}
use Rattle.fvn_terms.specs.declared.plain.Var.{Var}
use Rattle.fvn_terms.specs.Term.{Term}
use Rattle.fvn_terms.specs.Substitution.{Substitution}
use Rattle.fvn_terms.specs.Unifiers.{Problem}
use Rattle.fvn_terms.specs.Rewriting.{IsTerminating, IsConfluent}
use Rattle.fvn_terms.specs.CompleteSets.{IsShortest}
use Rattle.fvn_forms.specs.Flat.{FlatTerm}
use Rattle.fvn_cover.specs.declared.variant.Variant.{Variant}
use Rattle.fvn_cover.specs.Covering.{CoversVariant}
use Rattle.fvn_exploring.specs.declared.limits.Limits.{Limits}
use Rattle.fvn_exploring.specs.declared.ends.Deep.{Deep}
use Rattle.fvn_exploring.specs.declared.ends.Explored.{Explored}
use Rattle.fvn_exploring.specs.declared.ends.ExploreEnd.TheVariants.{Complete, Levels}
use Rattle.fvn_exploring.specs.Setting.{Setting}
use Rattle.fvn_exploring.specs.Children.{IsChild}
use Rattle.fvn_exploring.specs.Liftings.{IsLifted}
use Rattle.fvn_exploring.specs.LevelRuns.{AreVariablesOf, IsLevelRun}
use Rattle.fvn_exploring.specs.Explorations.{variants_of, IsCovered, IsVariantOf, IsStartWithin, IsFound, IsExploration}
use Rattle.fvn_closure.specs.Closing.{IsExplorable, AreClosedBelow, Reached, reached_of}
use Rattle.fvn_closure.specs.Closing.{IsReachedVariant, IsCoveredBy, IsVariantWithin}

-- an instance of v that lifts into c lifts into each variant over the same variables that covers c
abbrev pub CoveringsCarryLiftings : Type 0
CoveringsCarryLiftings = (g : Setting) (v c n : Variant) → n.vars ≡ v.vars → CoversVariant g.declarations n c
    → (s : Substitution) → IsLifted g v s c → IsLifted g v s n

-- a child of a variant of the start is one
abbrev pub ChildrenAreVariants : Setting → (Problem → Substitution → Type 0) → Type 0
ChildrenAreVariants g drawn = (start : List FlatTerm) → IsExplorable g start
    → (v c : Variant) → IsFound g start v → IsChild g drawn v c → IsFound g start c

-- what is said of the members of a level run
pub record LevelRunLaws (g : Setting) (start : List FlatTerm) (kept : List Deep) : Type 0 where
  -- each is a variant of the start
  pub found : (m : Deep) → Contains kept m → IsFound g start m.variant
  -- where so many levels are closed, they cover each variant that no more steps lead to
  pub within : IsConfluent g.declarations g.equations
      → (first : Deep) → Contains kept first → (k : ℕ) → AreClosedBelow g kept k
      → (us : List Term) (s : Substitution) → IsVariantOf g start us s → IsStartWithin g start k s
      → IsCovered g (variants_of kept) us s
  -- where all levels are closed, and the equations terminate, they cover each variant
  pub complete : IsTerminating g.declarations g.equations → IsConfluent g.declarations g.equations
      → (first : Deep) → Contains kept first → ((k : ℕ) → AreClosedBelow g kept k)
      → (us : List Term) (s : Substitution) → IsVariantOf g start us s → IsCovered g (variants_of kept) us s

-- in a good signature with lawful equations, for each level run
abbrev pub LevelRunsAreLawful : Setting → (Problem → Substitution → Type 0) → Type 0
LevelRunsAreLawful g drawn = (start : List FlatTerm) → IsExplorable g start
    → (kept : List Deep) → IsLevelRun g drawn start kept → LevelRunLaws g start kept

-- what is said of an exploration of a start with these variables, where the equations are confluent
pub record ExplorationLaws (g : Setting) (start : List FlatTerm) (limits : Limits) (x : Explored)
    (vars : List Var) : Type 0 where
  -- where finitely many variants within the limit of levels cover every variant, it does not end at that limit
  pub finite : (list : List Reached) → All (IsVariantWithin g start limits.levels) list
      → ((p : Reached) → IsReachedVariant g start p → Any (IsCoveredBy g start vars p) list)
      → (v : Variant) → x.end ≡ Levels v → ⊥
  -- where the equations terminate, no complete list of variants is shorter than a complete exploration's
  pub shortest : x.end ≡ Complete → IsTerminating g.declarations g.equations
      → IsShortest (IsReachedVariant g start) (IsCoveredBy g start vars) (map reached_of x.variants)

-- in a good signature with lawful equations
abbrev pub ExplorationsAreLawful : Setting → (Problem → Substitution → Type 0) → Type 0
ExplorationsAreLawful g drawn = (start : List FlatTerm) → IsExplorable g start
    → IsConfluent g.declarations g.equations → (limits : Limits) (x : Explored)
    → IsExploration g drawn start limits x → (vars : List Var) → AreVariablesOf start vars
    → ExplorationLaws g start limits x vars
