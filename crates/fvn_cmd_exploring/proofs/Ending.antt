-- The ends of explorations can be told.
use Rattle.std.proofs.Common.{◌≡◌, ℕ, List, Option, Some, None, refl, sym, subst}
use Rattle.fvn_forms.specs.Flat.{FlatTerm}
use Rattle.fvn_flat.specs.Drawn.{IsDrawn}
use Rattle.fvn_module.specs.Contents.{Contents}
use Rattle.fvn_cover.specs.declared.variant.Variant.{Variant}
use Rattle.fvn_exploring.specs.declared.ends.Explored.{Explored}
use Rattle.fvn_exploring.specs.declared.ends.ExploreEnd.{ExploreEnd}
use Rattle.fvn_exploring.specs.declared.ends.ExploreEnd.TheVariants.{Complete, Levels, Variants, Steps, Size, Basis, Unifiers}
use Rattle.fvn_exploring.specs.Explorations.{IsExploreCause}
use Rattle.fvn_answer.specs.Answers.{FitsEnd}
use Rattle.fvn_answer.specs.declared.end.End.{End}
use Rattle.fvn_answer.specs.declared.end.End.TheVariants as told
use Rattle.fvn_answer.proofs.Declared.{associative-declared}
use Rattle.fvn_cmd_words.specs.declared.reach.Reach.{Reach}
use Rattle.fvn_cmd_exploring.specs.Searches.{setting_of, limits_of}
use Rattle.fvn_cmd_exploring.specs.Ends.{end_told}

-- an end with its cause can be written
module _ (m : Contents) (reach : Reach) (start : List FlatTerm) (x : Explored) (loss : Option ℕ) (count : ℕ) where
  pub told_fits : (end : ExploreEnd) → IsExploreCause (setting_of m reach) (IsDrawn m.signature) start (limits_of m reach 1) x end → FitsEnd m.signature (end_told reach end loss count)
  told_fits Complete c = whole loss where
    whole : (l : Option ℕ) → FitsEnd m.signature (end_told reach Complete l count)
    whole None = tt
    whole (Some n) = tt
  told_fits (Levels v) c = tt
  told_fits (Variants v) c = tt
  told_fits (Steps from to) c = c.fits
  told_fits (Size cause) c = tt
  told_fits (Basis f system) c = associative-declared m.signature f c.basis.is_system.associative
  told_fits (Unifiers given list) c = tt

-- an end at the limit of levels, and one at that of variants
abbrev IsAtLevels : End → Type 0
IsAtLevels (told.Complete n) = ⊥
IsAtLevels (told.Levels n) = Unit {0}
IsAtLevels (told.Variants n) = ⊥
IsAtLevels (told.Steps n t) = ⊥
IsAtLevels (told.Size n) = ⊥
IsAtLevels (told.Basis f) = ⊥
IsAtLevels (told.Unifiers n) = ⊥
IsAtLevels (told.Sorts n) = ⊥

abbrev IsAtVariants : End → Type 0
IsAtVariants (told.Complete n) = ⊥
IsAtVariants (told.Levels n) = ⊥
IsAtVariants (told.Variants n) = Unit {0}
IsAtVariants (told.Steps n t) = ⊥
IsAtVariants (told.Size n) = ⊥
IsAtVariants (told.Basis f) = ⊥
IsAtVariants (told.Unifiers n) = ⊥
IsAtVariants (told.Sorts n) = ⊥

level_of : (n k : ℕ) → told.Levels n ≡ told.Levels k → k ≡ n
level_of n k e = cc

-- a limit is told where the exploration met it
module _ (reach : Reach) where
  pub levels_told : (end : ExploreEnd) (loss : Option ℕ) (count k : ℕ) → end_told reach end loss count ≡ told.Levels k → (v : Variant) × (end ≡ Levels v) × (k ≡ reach.levels)
  levels_told Complete None count k h = absurd (subst IsAtLevels (sym h) tt)
  levels_told Complete (Some n) count k h = absurd (subst IsAtLevels (sym h) tt)
  levels_told (Levels v) loss count k h = (v, refl, level_of reach.levels k h)
  levels_told (Variants v) loss count k h = absurd (subst IsAtLevels (sym h) tt)
  levels_told (Steps from to) loss count k h = absurd (subst IsAtLevels (sym h) tt)
  levels_told (Size cause) loss count k h = absurd (subst IsAtLevels (sym h) tt)
  levels_told (Basis f system) loss count k h = absurd (subst IsAtLevels (sym h) tt)
  levels_told (Unifiers given list) loss count k h = absurd (subst IsAtLevels (sym h) tt)

  pub variants_told : (end : ExploreEnd) (loss : Option ℕ) (count k : ℕ) → end_told reach end loss count ≡ told.Variants k → (v : Variant) × (end ≡ Variants v)
  variants_told Complete None count k h = absurd (subst IsAtVariants (sym h) tt)
  variants_told Complete (Some n) count k h = absurd (subst IsAtVariants (sym h) tt)
  variants_told (Levels v) loss count k h = absurd (subst IsAtVariants (sym h) tt)
  variants_told (Variants v) loss count k h = (v, refl)
  variants_told (Steps from to) loss count k h = absurd (subst IsAtVariants (sym h) tt)
  variants_told (Size cause) loss count k h = absurd (subst IsAtVariants (sym h) tt)
  variants_told (Basis f system) loss count k h = absurd (subst IsAtVariants (sym h) tt)
  variants_told (Unifiers given list) loss count k h = absurd (subst IsAtVariants (sym h) tt)
