-- The places that are left decide.
use Rattle.std.proofs.Common.{◌≡◌, length}
use Rattle.fvn_refine.specs.inner.Rows.{beside}
use Rattle.fvn_refine.proofs.places.beside.Given as goal

abbrev pub invariant-loop-x : goal.invariant-loop-x
invariant-loop-x l = record {
  as_long : length l.x-iterator.a.rest.now ≡ length l.x-iterator.b.rest.now;
  decide : beside l.vars l.row l.y l.s ≡ beside l.x-iterator.a.rest.now l.x-iterator.b.rest.now l.y l.s;
}
