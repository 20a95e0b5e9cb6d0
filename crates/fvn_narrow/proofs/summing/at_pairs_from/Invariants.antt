-- What was found at the pairs so far.
use Rattle.fvn_flat.specs.Forms.{args_of}
use Rattle.fvn_rewrite_rules.specs.Given.{headed}
use Rattle.fvn_narrow.specs.inner.Turns.{ForEach, TryLifts, IsTryFrom}
use Rattle.fvn_narrow.proofs.Joined.{AreSoFar}
use Rattle.fvn_narrow.proofs.summing.at_pairs_from.Given as goal

abbrev pub invariant-loop-j : goal.invariant-loop-j
invariant-loop-j g l =
    let unifiers = g.S.Solves.most_unifiers l.tools.solver.now in
    AreSoFar l.tools.rewriter.now unifiers (g.S.Solves.drawn l.tools.solver.now) l.start.variant
    (ForEach (TryLifts l.tools.rewriter.now unifiers l.start.variant) (IsTryFrom l.f (args_of l.sum.at.now) (headed l.tools.rewriter.now.rules l.f) (l.i, l.j))) l.children.items
