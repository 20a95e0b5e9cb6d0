-- The places that are left decide.
use Rattle.std.proofs.Common.{◌≡◌, ◌+◌, length}
use Rattle.fvn_refine.specs.inner.Ordering.{is_before}
use Rattle.fvn_refine.proofs.ordering.is_before.Given as goal

abbrev pub invariant-loop-v : goal.invariant-loop-v
invariant-loop-v l = record {
  longer : length l.row + length l.v-iterator.b.rest.now ≡ length l.other + length l.v-iterator.a.rest.now;
  decide : is_before l.row l.other ≡ is_before l.v-iterator.a.rest.now l.v-iterator.b.rest.now;
}
