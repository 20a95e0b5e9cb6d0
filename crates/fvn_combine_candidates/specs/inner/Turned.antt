-- A system with its rows in another order.
use Rattle.std.specs.Prelude.{◌≡◌, ◌++◌, List, reverse, All, Contains}
use Rattle.fvn_lindio.specs.declared.system.System.{System}
use Rattle.fvn_lindio.specs.declared.system.Row.{Row}

-- some rows of the system come first, and then all of them, from the last to the first
pub record IsTurned (s t : System) : Type 0 where
  pub columns : t.columns ≡ s.columns
  pub front : List Row
  pub among : All (Contains s.rows) front
  pub rows : t.rows ≡ front ++ reverse s.rows
