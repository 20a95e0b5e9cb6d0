-- One of them.
use Rattle.std.proofs.Common.{sym, subst}
use Rattle.std.specs.Prelude.{Contains}
use Rattle.std.proofs.lemmas.List.Elements.{All-contains, Contains-get_or}
use Rattle.fvn_rewrite_rules.specs.declared.rule.Rule.{Rule}
use Rattle.fvn_critical.specs.inner.Choosing.{SidesFit}
use Rattle.fvn_critical.proofs.choosing.some_subsumes.Goals as goal

pub subsumes-requires-clause-general : goal.subsumes-requires-clause-general
subsumes-requires-clause-general c =
    let item : Rule = c.general-item.result in
    All-contains (SidesFit c.args.sig.now) c.args.rules.now item c.requires.rules (subst (Contains c.args.rules.now) (sym c.general-item.is) (Contains-get_or c.args.rules.now c.loop-general.general-index item c.loop-general-test.true))

pub returns-then-found : goal.returns-then-found
returns-then-found c = λ is.
    let item : Rule = c.general-item.result in
    (item, (subst (Contains c.args.rules.now) (sym c.general-item.is) (Contains-get_or c.args.rules.now c.loop-general.general-index item c.loop-general-test.true), c.in_ok-found.ensures c.if-found.true))
