-- What is left decides, and as much is gone of both lists.
use Rattle.std.proofs.Common.{◌≡◌, ◌+◌, length}
use Rattle.fvn_forms.specs.Order.{flat_cmp}
use Rattle.fvn_flat.proofs.Comparisons.{list_cmp}
use Rattle.fvn_flat.proofs.flat.Flat.+compare.Given as goal

abbrev pub invariant-loop-t : goal.invariant-loop-t
invariant-loop-t l = record {
  decide : flat_cmp l.self l.other ≡ list_cmp l.t-iterator.a.rest.now l.t-iterator.b.rest.now;
  as_many : length l.ts.items + length l.t-iterator.b.rest.now ≡ length l.us.items + length l.t-iterator.a.rest.now;
}
