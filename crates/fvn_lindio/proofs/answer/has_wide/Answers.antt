-- One component more, and all of them in the end.
use Rattle.std.proofs.Common.{◌≤◌, subst}
use Rattle.std.specs.List.{All}
use Rattle.std.proofs.lemmas.List.{take_all}
use Rattle.std.proofs.lemmas.List.Elements.{All-more}
use Rattle.fvn_lindio.proofs.answer.has_wide.Goals as goal

pub loop-a-preserved : goal.loop-a-preserved
loop-a-preserved c = All-more (λ a. a ≤ 65535) c.args.parts.now c.loop-a.a-index 0 c.loop-a-test.true c.loop-a.invariant c.if-a-gt-COMPONENT.false

pub returns-clause-narrow : goal.returns-clause-narrow
returns-clause-narrow c = λ _. subst (All (λ a. a ≤ 65535)) (take_all c.loop-a.a-index c.args.parts.now c.loop-a-test.false) c.loop-a.invariant
