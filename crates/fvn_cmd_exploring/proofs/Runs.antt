-- An exploration that ends at a limit shows a run of levels that goes past it.
use Rattle.std.proofs.Common.{◌≡◌, ◌+◌, ◌≤◌, List, [], ◌∷◌, ◌++◌, length, ap, subst, arith}
use Rattle.std.specs.Prelude.{Contains}
use Rattle.std.proofs.lemmas.List.{length-append}
use Rattle.std.proofs.lemmas.List.Elements.{All-contains, Contains-append_right}
use Rattle.fvn_base.proofs.Membership.{contains_here, contains_none, contains_map}
use Rattle.fvn_terms.specs.Substitution.{Substitution}
use Rattle.fvn_terms.specs.Unifiers.{Problem}
use Rattle.fvn_forms.specs.Flat.{FlatTerm}
use Rattle.fvn_flat.specs.Drawn.{IsDrawn}
use Rattle.fvn_module.specs.Contents.{Contents}
use Rattle.fvn_cover.specs.declared.variant.Variant.{Variant}
use Rattle.fvn_exploring.specs.declared.ends.Deep.{Deep}
use Rattle.fvn_exploring.specs.declared.ends.Explored.{Explored}
use Rattle.fvn_exploring.specs.declared.ends.ExploreEnd.TheVariants.{Levels, Variants}
use Rattle.fvn_exploring.specs.Setting.{Setting}
use Rattle.fvn_exploring.specs.LevelRuns.{AreFolded, IsLevelRun}
use Rattle.fvn_exploring.specs.Explorations.{IsBelowLevel, IsOneMore, IsExploreCause}
use Rattle.fvn_closure.proofs.OneMore.{run_push}
use Rattle.fvn_cmd_words.specs.declared.reach.Reach.{Reach}
use Rattle.fvn_cmd_exploring.specs.Searches.{setting_of, limits_of, AreExplored}
use Rattle.fvn_cmd_exploring.specs.Bounds.{RunsAreShallow, RunsAreShort}

-- a list with an element is not empty
some_in : {A : Type 0} (xs : List A) (x : A) → Contains xs x → 1 ≤ length xs
some_in [] x c = absurd (contains_none x c)
some_in (y ∷ xs) x c = omega arith

module _ (m : Contents) (reach : Reach) (start : List FlatTerm) (x : Explored) (explored : AreExplored m reach start x) where
  abbrev g : Setting
  g = setting_of m reach

  abbrev drawn : Problem → Substitution → Type 0
  drawn = IsDrawn m.signature

  -- a child below the last level could follow what is kept
  module _ (v : Variant) (below : IsBelowLevel g drawn start reach.levels x v) where
    abbrev deeper : Deep
    deeper = record { variant = v; depth = reach.levels + 1 }

    folds : (a : Deep) → Contains x.kept a → (a.depth ≤ reach.levels + 1) × AreFolded g a deeper
    folds a i =
        let low : a.depth ≤ reach.levels = All-contains (λ (k : Deep). k.depth ≤ reach.levels) x.kept a explored.shallow i in
        let there = contains_map (λ (k : Deep). k.variant) x.kept a i in
        (omega (arith, low), (λ c. below.kept (there.0, a.variant, there.1, there.2, c), λ e c. absurd (omega (arith, low, e))))

    further : IsLevelRun g drawn start (x.kept ++ deeper ∷ [])
    further =
        run_push g drawn start x.kept deeper (some_in x.kept below.parent below.listed) explored.run
        (record { parent = below.parent; listed = below.listed; above = ap (λ n. n + 1) below.depth; child = below.child }) folds

    too_deep : RunsAreShallow m reach start → ⊥
    too_deep shallow =
        let here = Contains-append_right x.kept (deeper ∷ []) deeper (contains_here deeper []) in
        let low : deeper.depth ≤ reach.levels = All-contains (λ (k : Deep). k.depth ≤ reach.levels) (x.kept ++ deeper ∷ []) deeper (shallow (x.kept ++ deeper ∷ []) further) here in
        omega (arith, low)

  pub not_at_levels : RunsAreShallow m reach start → (v : Variant) → x.end ≡ Levels v → ⊥
  not_at_levels shallow v e = too_deep v (subst (IsExploreCause g drawn start (limits_of m reach 1) x) e explored.cause) shallow

  pub not_at_variants : RunsAreShort m reach start → (v : Variant) → x.end ≡ Variants v → ⊥
  not_at_variants short v e =
      let more : IsOneMore g drawn start reach.variants x.kept v = subst (IsExploreCause g drawn start (limits_of m reach 1) x) e explored.cause in
      let last : Deep = record { variant = v; depth = more.depth } in
      let few = short (x.kept ++ last ∷ []) more.run in
      let count = length-append x.kept (last ∷ []) in
      let full : length x.kept ≡ reach.variants = more.full in
      omega (arith, few, count, full)
