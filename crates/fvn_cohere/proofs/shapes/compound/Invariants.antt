-- The sorts so far.
use Rattle.std.proofs.Common.{◌≡◌, length, map, take}
use Rattle.fvn_rewrite_laws.specs.declared.shapes.Shape.{Shape}
use Rattle.fvn_cohere.proofs.shapes.compound.Given as goal

abbrev pub invariant-loop-shape : goal.invariant-loop-shape
invariant-loop-shape l = record {
  count : l.i ≡ l.shape-index;
  room : length l.sorts ≡ 8;
  sorts : take l.i l.sorts ≡ map (λ (s : Shape). s.sort) (take l.shape-index l.shapes);
}
