-- What is noted holds.
use Rattle.fvn_combine_inferring.specs.inner.Sizes.{AreInside}
use Rattle.fvn_combine_inferring.proofs.sizes.insides.Given as goal

abbrev pub invariant-loop-i : goal.invariant-loop-i
invariant-loop-i l = AreInside l.sig l.table l.state l.known.sorted l.list.items
