-- The bounds so far, all known.
use Rattle.std.proofs.Common.{◌≡◌, length, map, take, Some}
use Rattle.fvn_cohere.specs.inner.Outlooks.{lows_of}
use Rattle.fvn_cohere.proofs.outlooks.low_over.Given as goal

abbrev pub invariant-loop-part : goal.invariant-loop-part
invariant-loop-part l = record {
  count : l.i ≡ l.part-index;
  room : length l.sorts ≡ 8;
  sorts : map Some (take l.i l.sorts) ≡ lows_of (take l.part-index l.parts);
}
