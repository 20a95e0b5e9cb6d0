-- The bounds so far.
use Rattle.std.proofs.Common.{◌≡◌, length, take}
use Rattle.fvn_cohere.specs.inner.Outlooks.{highs_of}
use Rattle.fvn_cohere.proofs.outlooks.high_over.Given as goal

abbrev pub invariant-loop-part : goal.invariant-loop-part
invariant-loop-part l = record {
  count : l.i ≡ l.part-index;
  room : length l.sorts ≡ 8;
  sorts : take l.i l.sorts ≡ highs_of (take l.part-index l.parts);
}
