-- Wheels, and the lists of choices on them that are still to come.
use Rattle.std.specs.Prelude.{ℕ, ◌^◌, Bool, List, Option, length, map}
use Rattle.fvn_lindio.specs.Systems.{vectors_of}
use Rattle.fvn_lindio.specs.declared.system.Solution.{Solution}
use Rattle.fvn_acunify.specs.declared.theory.ColumnBounds.{ColumnBounds}
use Rattle.fvn_acunify.specs.Cursor.{Cursor}
use Rattle.fvn_acunify.specs.ValidChoice.{IsListed}
use Rattle.fvn_acunify_product.specs.ToCome.{IsToCome}
use Rattle.fvn_acunify_product.specs.Weight.{weight}

-- what is asked of a choice on the wheel, bounds of columns, the solutions that are chosen among, and whether full choices alone are on it, with what other columns
pub record Wheel : Type 0 where
  pub constants : List ℕ
  pub may_be_zero : List Bool
  pub bounds : ColumnBounds
  pub basis : List Solution
  pub full : Option (List ℕ)

-- the wheel that a cursor over choices goes round, wherever the cursor stands
abbrev pub wheel_of : Cursor → Wheel
wheel_of c = record { constants = c.constants; may_be_zero = c.may_be_zero; bounds = c.bounds; basis = c.basis; full = c.full }

-- the number is a choice among the wheel's solutions: a valid one within its bounds, and on a wheel of full choices a full one
abbrev pub IsChoice : Wheel → ℕ → Type 0
IsChoice w b = IsListed w.full w.constants w.may_be_zero w.bounds (vectors_of w.basis) b

-- wheels, and the greatest list of choices on them that is still to come, if any
pub record Odometer : Type 0 where
  pub wheels : List Wheel
  pub current : Option (List ℕ)

-- a list of choices, one a wheel, that is still to come
abbrev pub PendingChoices : Odometer → List ℕ → Type 0
PendingChoices o numbers = IsToCome IsChoice o.wheels o.current numbers

-- how many numbers each wheel has, choices or not
abbrev pub counts_of : List Wheel → List ℕ
counts_of wheels = map (λ w. 2 ^ length w.basis) wheels

-- the most lists of choices that are still to come; it falls with each that is given
abbrev pub choices_left : Odometer → ℕ
choices_left o = weight (counts_of o.wheels) o.current
