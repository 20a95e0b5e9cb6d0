-- One of the rules.
use Rattle.std.proofs.Common.{sym, subst}
use Rattle.std.specs.Prelude.{Contains}
use Rattle.std.proofs.lemmas.List.Elements.{Contains-get_or}
use Rattle.fvn_rewrite_rules.specs.declared.rule.Rule.{Rule}
use Rattle.fvn_narrow.proofs.serving.replacement.Goals as goal

pub returns-then-serves : goal.returns-then-serves
returns-then-serves c =
    let other : Rule = c.other-item.result in
    (subst (Contains c.args.rules.now) (sym c.other-item.is) (Contains-get_or c.args.rules.now c.loop-other.other-index other c.loop-other-test.true), c.replaces-serves.ensures c.if-serves.true)
