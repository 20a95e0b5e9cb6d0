-- What is noted holds.
use Rattle.fvn_combine_inferring.specs.inner.Sizes.{AreInside}
use Rattle.fvn_combine_inferring.proofs.sizes.note_node.Given as goal

abbrev pub invariant-loop-sums : goal.invariant-loop-sums
invariant-loop-sums l = AreInside l.sig l.table l.state l.known.sorted l.list.items
