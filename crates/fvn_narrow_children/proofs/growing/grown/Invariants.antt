-- What the unifiers so far made.
use Rattle.fvn_narrow_children.proofs.GrownFacts.{AreGrownSoFar}
use Rattle.fvn_narrow_children.proofs.growing.grown.Given as goal

abbrev pub invariant-loop-s : goal.invariant-loop-s
invariant-loop-s l = AreGrownSoFar l.rewriter l.v l.members l.unifiers l.s-index l.children.items
