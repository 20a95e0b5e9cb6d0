-- What was found by the rules so far.
use Rattle.std.proofs.Common.{take}
use Rattle.fvn_narrow.specs.inner.Turns.{ForEach, TryLiftsAmong, IsTryOf}
use Rattle.fvn_narrow.proofs.Joined.{AreSoFar}
use Rattle.fvn_narrow.proofs.trying.by_rules.Given as goal

abbrev pub invariant-loop-rule : goal.invariant-loop-rule
invariant-loop-rule g l =
    let unifiers = g.S.Solves.most_unifiers l.tools.solver.now in
    AreSoFar l.tools.rewriter.now unifiers (g.S.Solves.drawn l.tools.solver.now) l.start.variant
    (ForEach (TryLiftsAmong l.tools.rewriter.now unifiers l.start.variant l.passes l.rules) (IsTryOf l.part.at.now (take l.rule-index l.rules))) l.children.items
