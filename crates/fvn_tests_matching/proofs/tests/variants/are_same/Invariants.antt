-- The places that are left decide.
use Rattle.std.proofs.Common.{◌≡◌, length}
use Rattle.fvn_tests_matching.proofs.tests.variants.are_same.Given as goal

abbrev pub invariant-loop-x : goal.invariant-loop-x
invariant-loop-x l = record {
  as_long : length l.x-iterator.a.rest.now ≡ length l.x-iterator.b.rest.now;
  decide : l.x-iterator.a.rest.now ≡ l.x-iterator.b.rest.now → l.xs ≡ l.ys;
}
