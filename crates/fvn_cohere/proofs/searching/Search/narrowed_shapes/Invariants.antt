-- The shapes that are kept so far.
use Rattle.std.proofs.Common.{take}
use Rattle.fvn_cohere.specs.inner.Narrowing.{KeepsShapes}
use Rattle.fvn_cohere.proofs.searching.Search.narrowed_shapes.Given as goal

abbrev pub invariant-loop-o : goal.invariant-loop-o
invariant-loop-o l = KeepsShapes l.self l.others l.x (take l.o-index l.shapes) l.kept.items
