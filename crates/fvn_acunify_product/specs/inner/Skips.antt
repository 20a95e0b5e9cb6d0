-- One step of tags past all lists that agree with the one that stands there up to a place.
use Rattle.std.specs.Prelude.{◌≡◌, ◌⊎◌, ℕ, ◌<◌, ◌≤◌, List, length, slice_index, Some}
use Rattle.std.specs.List.{AllZip}
use Rattle.fvn_base.specs.Order.{IsBefore}
use Rattle.fvn_acunify_product.specs.ToCome.{IsAtOrBefore}
use Rattle.fvn_acunify_product.specs.Tags.{IsOption, AgreesUpTo}

-- the places from this one on have 0, and those before it have what they had
pub record IsLowered (from : ℕ) (old new : List ℕ) : Type 0 where
  pub as_many : length new ≡ length old
  pub front : (k : ℕ) → k < from → slice_index new k ≡ slice_index old k
  pub least : (k : ℕ) → from ≤ k → slice_index new k ≡ 0

-- the new list is the greatest before all that agree with the old one up to the place
pub record IsNextAfter (counts : List ℕ) (place : ℕ) (old new : List ℕ) : Type 0 where
  pub options : AllZip IsOption counts new
  pub before : IsBefore new old
  pub rest : (x : List ℕ) → AllZip IsOption counts x → IsAtOrBefore (Some old) x → AgreesUpTo place (Some old) x ⊎ IsAtOrBefore (Some new) x
  pub passed : (x : List ℕ) → AllZip IsOption counts x → IsAtOrBefore (Some new) x → AgreesUpTo place (Some old) x → ⊥

-- all lists that are left agree with the old one up to the place
abbrev pub IsEndAfter : List ℕ → ℕ → List ℕ → Type 0
IsEndAfter counts place old = (x : List ℕ) → AllZip IsOption counts x → IsAtOrBefore (Some old) x → AgreesUpTo place (Some old) x
