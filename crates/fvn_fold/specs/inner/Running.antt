-- Level runs as they grow, and what an exploration ends with.
use Rattle.std.specs.Prelude.{◌≡◌, ◌≢◌, ◌≤◌, ◌<◌, ◌⊎◌, ◌+◌, ℕ, Bool, true, false, List, [], ◌∷◌, ◌++◌, length, map, All, AllPairs, Contains}
use Rattle.fvn_terms.specs.declared.declarations.Declarations.{Declarations}
use Rattle.fvn_terms.specs.Substitution.{Substitution}
use Rattle.fvn_terms.specs.Unifiers.{Problem}
use Rattle.fvn_forms.specs.Flat.{FlatTerm}
use Rattle.fvn_cover.specs.declared.variant.Variant.{Variant}
use Rattle.fvn_cover.specs.Covering.{CoversVariant, AreAlike, IsFlatVariant}
use Rattle.fvn_cover.specs.Pruning.{IsPruned}
use Rattle.fvn_exploring.specs.declared.limits.Limits.{Limits}
use Rattle.fvn_exploring.specs.declared.ends.Deep.{Deep}
use Rattle.fvn_exploring.specs.declared.ends.ExpandEnd.{ExpandEnd}
use Rattle.fvn_exploring.specs.declared.ends.ExpandEnd.TheVariants.{Whole}
use Rattle.fvn_exploring.specs.declared.ends.Explored.{Explored}
use Rattle.fvn_exploring.specs.declared.ends.ExploreEnd.TheVariants.{Levels, Variants}
use Rattle.fvn_exploring.specs.Ends.{explore_end}
use Rattle.fvn_exploring.specs.Setting.{Setting}
use Rattle.fvn_exploring.specs.LevelRuns.{IsLevelRun}
use Rattle.fvn_exploring.specs.Explorations.{variants_of}
use Rattle.fvn_closure.specs.Closing.{AreClosedBelow}
use Rattle.fvn_fold.specs.declared.runs.Run.{Run}
use Rattle.fvn_fold.specs.declared.exploring.Turn.{Turn}
use Rattle.fvn_fold.specs.declared.exploring.Turn.TheVariants.{On, Done}
use Rattle.fvn_fold.specs.inner.Gathering.{AreReady}

-- a variant of a level
abbrev pub at_depth : ℕ → Variant → Deep
at_depth depth v = record { variant = v; depth = depth }

-- what is kept above the last level, the members of that level, and all kept variants
pub record LevelLists : Type 0 where
  pub done : List Deep
  pub members : List Variant
  pub kept : List Variant

-- the three lists of a run
abbrev pub lists_of : Run → LevelLists
lists_of r = record { done = r.done.items; members = r.members.items; kept = r.kept.items }

-- all that is kept, where the last level is this one
abbrev pub deep_of : LevelLists → ℕ → List Deep
deep_of r depth = r.done ++ map (at_depth depth) r.members

-- the run with one more level below this one
abbrev pub with_next : LevelLists → ℕ → List Variant → LevelLists
with_next r depth next = record { done = deep_of r depth; members = next; kept = r.kept ++ next }

-- What is known of a run whose last level is this one: it is a level run, all levels above its last are closed, and the
-- three lists fit.
pub record IsExploredTo (g : Setting) (drawn : Problem → Substitution → Type 0) (start : List FlatTerm) (depth : ℕ)
    (r : LevelLists) : Type 0 where
  pub run : IsLevelRun g drawn start (deep_of r depth)
  pub closed : AreClosedBelow g (deep_of r depth) depth
  pub above : All (λ m. m.depth < depth) r.done
  pub kept : r.kept ≡ variants_of (deep_of r depth)
  pub some : 1 ≤ length r.kept
  pub ready : AreReady g r.kept

-- all are flat in the signature, and alike, and none covers a later one
pub record AreKept (d : Declarations) (kept : List Variant) : Type 0 where
  pub flat : All (IsFlatVariant d) kept
  pub alike : All (λ a. All (AreAlike a) kept) kept
  pub folded : AllPairs (λ a b. CoversVariant d a b → ⊥) kept

-- after this next level nothing comes, or all expansions were whole
abbrev pub IsOverOrWhole : Bool → List Variant → ExpandEnd → Type 0
IsOverOrWhole true next end = (end ≢ Whole) ⊎ (next ≡ [])
IsOverOrWhole false next end = end ≡ Whole

module _ (d : Declarations) (limits : Limits) (r : LevelLists) (depth : ℕ) (next : List Variant) where
  -- a next variant is left at the last level
  pub record IsEndAtLevels (x : Explored) : Type 0 where
    pub last : depth ≡ limits.levels
    pub variant : Variant
    pub listed : Contains next variant
    pub kept : x.kept ≡ deep_of r depth
    pub pruned : IsPruned d r.kept x.variants
    pub is_end : x.end ≡ Levels variant

  -- there are more next variants than may be kept
  pub record IsEndFull (x : Explored) : Type 0 where
    pub more_levels : depth < limits.levels
    pub front : List Variant
    pub variant : Variant
    pub back : List Variant
    pub split : next ≡ front ++ variant ∷ back
    pub full : length r.kept + length front ≡ limits.variants
    pub kept : x.kept ≡ deep_of (with_next r depth front) (depth + 1)
    pub pruned : IsPruned d (r.kept ++ front) x.variants
    pub is_end : x.end ≡ Variants variant

  module _ (end : ExpandEnd) where
    -- the last level, without a next variant
    pub record IsEndOfLast (x : Explored) : Type 0 where
      pub last : depth ≡ limits.levels
      pub none : next ≡ []
      pub kept : x.kept ≡ deep_of r depth
      pub pruned : IsPruned d r.kept x.variants
      pub is_end : x.end ≡ explore_end end

    -- the next level is the last that is kept
    pub record IsEndBelow (x : Explored) : Type 0 where
      pub more_levels : depth < limits.levels
      pub few : length r.kept + length next ≤ limits.variants
      pub over : (end ≢ Whole) ⊎ (next ≡ [])
      pub kept : x.kept ≡ deep_of (with_next r depth next) (depth + 1)
      pub pruned : IsPruned d (r.kept ++ next) x.variants
      pub is_end : x.end ≡ explore_end end

    -- an exploration ends at its last level
    abbrev pub IsEndedAtLast : Explored → Type 0
    IsEndedAtLast x = IsEndAtLevels x ⊎ IsEndOfLast x

    -- or before
    abbrev pub IsEnded : Explored → Type 0
    IsEnded x = IsEndedAtLast x ⊎ (IsEndFull x ⊎ IsEndBelow x)

    -- the exploration goes on with this run
    pub record GoesOn (more : LevelLists) : Type 0 where
      pub more_levels : depth < limits.levels
      pub few : length r.kept + length next ≤ limits.variants
      pub whole : end ≡ Whole
      pub is : more ≡ with_next r depth next

    -- what comes after a level
    abbrev pub IsTurned : Turn → Type 0
    IsTurned (On run) = GoesOn (lists_of run)
    IsTurned (Done x) = IsEnded x
