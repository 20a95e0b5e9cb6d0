-- What is noted holds.
use Rattle.fvn_combine_inferring.specs.inner.Sizes.{AreInside}
use Rattle.fvn_combine_inferring.proofs.arguments.note_each.Given as goal

abbrev pub invariant-loop-k : goal.invariant-loop-k
invariant-loop-k l = AreInside l.sig l.table l.state l.sorted l.list.items
