-- Lists of classes, by what weights of classes make of them.
use Rattle.std.specs.Prelude.{◌≡◌, ℕ, ◌+◌, ◌<◌, Bool, true, false, List, sum_by, Option, All, IfSome}

-- numbers of the second list are below what those of the first are below
abbrev pub StaysBelow : List ℕ → List ℕ → Type 0
StaysBelow before after = (n : ℕ) → All (λ k. k < n) before → All (λ k. k < n) after

-- x is taken out once; or the list is as it was
abbrev pub IsTakenOut : (before after : List ℕ) → ℕ → Bool → Type 0
IsTakenOut before after x true = ((w : ℕ → ℕ) → sum_by w after + w x ≡ sum_by w before) × StaysBelow before after
IsTakenOut before after x false = after ≡ before

-- as much is taken out of the left list as of the right one
pub record IsCancelled (left right left_after right_after : List ℕ) : Type 0 where
  pub balance : (w : ℕ → ℕ) → sum_by w left_after + sum_by w right ≡ sum_by w left + sum_by w right_after
  pub below_left : StaysBelow left left_after
  pub below_right : StaysBelow right right_after

-- what is left out has no weight, where the number that is given has none
pub record IsWithout (given : Option ℕ) (list kept : List ℕ) : Type 0 where
  pub balance : (w : ℕ → ℕ) → IfSome given (λ e. w e ≡ 0) → sum_by w kept ≡ sum_by w list
  pub below : StaysBelow list kept
