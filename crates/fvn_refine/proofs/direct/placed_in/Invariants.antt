-- The places before this one stay.
use Rattle.std.proofs.Common.{◌≡◌, ◌++◌, take, drop}
use Rattle.fvn_refine.specs.inner.Rows.{placed}
use Rattle.fvn_refine.proofs.direct.placed_in.Given as goal

abbrev pub invariant-loop-i : goal.invariant-loop-i
invariant-loop-i l = record {
  same : l.all.items ≡ l.initial.all.items;
  decide : take l.i l.initial.all.items ++ placed (drop l.i l.vars) (drop l.i l.initial.all.items) l.y l.s ≡ placed l.vars l.initial.all.items l.y l.s;
}
