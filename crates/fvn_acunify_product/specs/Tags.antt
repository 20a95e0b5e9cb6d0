-- Tags: at each place one of its own options, by number; 0 stands for none.
use Rattle.std.specs.Prelude.{◌≡◌, ℕ, ◌<◌, ◌≤◌, List, slice_index, Option, Some, None}
use Rattle.fvn_acunify_product.specs.ToCome.{IsToCome}
use Rattle.fvn_acunify_product.specs.Weight.{weight}

-- the number is one of so many options
abbrev pub IsOption : ℕ → ℕ → Type 0
IsOption count n = n < count

-- how many options each place has, and the greatest list of options that is still to come, if any
pub record Tagging : Type 0 where
  pub counts : List ℕ
  pub current : Option (List ℕ)

-- a list of options, one a place, that is still to come
abbrev pub PendingTags : Tagging → List ℕ → Type 0
PendingTags t numbers = IsToCome IsOption t.counts t.current numbers

-- how many lists of options are still to come
abbrev pub tags_left : Tagging → ℕ
tags_left t = weight t.counts t.current

-- the numbers are the current ones up to the place
abbrev pub AgreesUpTo : ℕ → Option (List ℕ) → List ℕ → Type 0
AgreesUpTo place None numbers = ⊥
AgreesUpTo place (Some current) numbers = (k : ℕ) → k ≤ place → slice_index numbers k ≡ slice_index current k
