-- The places before this one stay.
use Rattle.std.proofs.Common.{◌≡◌, ◌++◌, take, drop}
use Rattle.fvn_refine.specs.inner.Rows.{placed}
use Rattle.fvn_refine.proofs.places.placed.Given as goal

abbrev pub invariant-loop-i : goal.invariant-loop-i
invariant-loop-i l = record {
  same : l.all.items ≡ l.row;
  decide : take l.i l.row ++ placed (drop l.i l.vars) (drop l.i l.row) l.y l.s ≡ placed l.vars l.row l.y l.s;
}
