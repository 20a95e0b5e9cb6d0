-- A matcher is an instance.
use Rattle.std.proofs.Common.{refl}
use Rattle.fvn_rewrite_rules.proofs.Matched.{rule_fits, left_fits, refused, told}
use Rattle.fvn_rewrite_rules.proofs.heads.has_instance.Goals as goal

pub may_match-open-requires : goal.may_match-open-requires
may_match-open-requires c = record { pattern = rule_fits c.args.sig.now c.args.rule.now c.requires.rule; target = rule_fits c.args.sig.now c.args.other.now c.requires.other }

pub returns-then-not-open : goal.returns-then-not-open
returns-then-not-open c = refused c.args.sig.now c.args.rule.now c.args.other.now (c.may_match-open.ensures c.if-not-open.true)

pub returns-then-guessed : goal.returns-then-guessed
returns-then-guessed c = (λ t. c.in_ok-guessed.ensures c.if-guessed.true, λ h. refl)

pub returns : goal.returns
returns c =
    told c.args.sig.now c.args.rule.now c.args.other.now _ _ c.from_ref.ensures.value c.from_ref-2.ensures.value
    c.in_ok-found.found c.is_some-is.result c.is_some-is.ensures c.in_ok-found.ensures.some c.in_ok-found.ensures.none

pub matches-requires-clause-patterns : goal.matches-requires-clause-patterns
matches-requires-clause-patterns c = left_fits c.args.sig.now c.args.rule.now c.requires.rule c.from_ref.result.now c.from_ref.ensures.value

pub matches-requires-clause-targets : goal.matches-requires-clause-targets
matches-requires-clause-targets c = left_fits c.args.sig.now c.args.other.now c.requires.other c.from_ref-2.result.now c.from_ref-2.ensures.value
