-- The places that are left decide.
use Rattle.std.proofs.Common.{◌≡◌, length}
use Rattle.fvn_refine.specs.inner.Rows.{is_row_below}
use Rattle.fvn_refine.proofs.rows.is_row_below.Given as goal

abbrev pub invariant-loop-s : goal.invariant-loop-s
invariant-loop-s l = record {
  as_long : length l.s-iterator.a.rest.now ≡ length l.s-iterator.b.rest.now;
  decide : is_row_below l.sig l.row l.other ≡ is_row_below l.sig l.s-iterator.a.rest.now l.s-iterator.b.rest.now;
}
