-- A rule of the same equation that serves is one of them.
use Rattle.std.proofs.Common.{sym, subst}
use Rattle.std.specs.List.{Contains}
use Rattle.std.proofs.lemmas.List.Elements.{Contains-get_or}
use Rattle.fvn_rewrite_rules.specs.inner.Making.{IsKindedRule}
use Rattle.fvn_rewrite_rules.proofs.Steps.{All-item}
use Rattle.fvn_rewrite_rules.proofs.Needed.{serves_one}
use Rattle.fvn_rewrite_rules.proofs.heads.own_serves.Goals as goal

pub serves-requires-clause-rule : goal.serves-requires-clause-rule
serves-requires-clause-rule c = All-item (IsKindedRule c.args.sig.now) c.args.rules.now c.requires.rules c.loop-general.general-index c.general-item.result c.loop-general-test.true c.general-item.is

pub returns-then-found : goal.returns-then-found
returns-then-found c h = (
  c.general-item.result,
  (
    subst (Contains c.args.rules.now) (sym c.general-item.is) (Contains-get_or c.args.rules.now c.loop-general.general-index c.general-item.result c.loop-general-test.true),
    serves_one c.args.sig.now c.general-item.result c.args.rule.now c.in_ok-found.found c.if-found.true c.in_ok-found.ensures,
  ),
)
