-- What was found at the pairs so far.
use Rattle.fvn_flat.specs.Forms.{args_of}
use Rattle.fvn_rewrite_rules.specs.Given.{headed}
use Rattle.fvn_narrow.specs.inner.Turns.{ForEach, TryLifts, IsTryBefore}
use Rattle.fvn_narrow.proofs.Joined.{AreSoFar}
use Rattle.fvn_narrow.proofs.summing.at_pairs.Given as goal

abbrev pub invariant-loop-i : goal.invariant-loop-i
invariant-loop-i g l =
    let unifiers = g.S.Solves.most_unifiers l.tools.solver.now in
    AreSoFar l.tools.rewriter.now unifiers (g.S.Solves.drawn l.tools.solver.now) l.start.variant
    (ForEach (TryLifts l.tools.rewriter.now unifiers l.start.variant) (IsTryBefore l.f (args_of l.sum.at.now) (headed l.tools.rewriter.now.rules l.f) l.i)) l.children.items
