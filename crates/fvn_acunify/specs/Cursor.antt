-- A cursor over the choices that are listed, and what is still to come.
use Rattle.std.specs.Prelude.{ℕ, ◌<◌, Bool, List, [], Option}
use Rattle.fvn_lindio.specs.Systems.{vectors_of}
use Rattle.fvn_lindio.specs.declared.system.Solution.{Solution}
use Rattle.fvn_acunify.specs.declared.theory.ColumnBounds.{ColumnBounds}
use Rattle.fvn_acunify.specs.ValidChoice.{IsListed}

-- no bounds
abbrev pub unbounded : ColumnBounds
unbounded = record { at_most_one = []; at_least_one = [] }

-- what is asked, bounds of columns, the solutions, whether full choices alone are listed, with what other columns, and the number below which every one is still to come
pub record Cursor : Type 0 where
  pub constants : List ℕ
  pub may_be_zero : List Bool
  pub bounds : ColumnBounds
  pub basis : List Solution
  pub full : Option (List ℕ)
  pub below : ℕ

-- a choice that is listed and still to come
abbrev pub Pending : Cursor → ℕ → Type 0
Pending c b = (b < c.below) × IsListed c.full c.constants c.may_be_zero c.bounds (vectors_of c.basis) b
