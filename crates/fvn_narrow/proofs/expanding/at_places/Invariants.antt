-- What was found at the places so far.
use Rattle.std.proofs.Common.{take}
use Rattle.fvn_narrow.specs.inner.Turns.{ForEach, TryLiftsByParts}
use Rattle.fvn_narrow.specs.inner.Placing.{IsTryIn}
use Rattle.fvn_narrow.proofs.Joined.{AreSoFar}
use Rattle.fvn_narrow.proofs.expanding.at_places.Given as goal

abbrev pub invariant-loop-place : goal.invariant-loop-place
invariant-loop-place g l =
    let unifiers = g.S.Solves.most_unifiers l.tools.solver.now in
    AreSoFar l.tools.rewriter.now unifiers (g.S.Solves.drawn l.tools.solver.now) l.start.variant
    (ForEach (TryLiftsByParts l.tools.rewriter.now unifiers l.start.variant) (IsTryIn l.tools.rewriter.now.rules (take l.place-index l.places))) l.children.items
