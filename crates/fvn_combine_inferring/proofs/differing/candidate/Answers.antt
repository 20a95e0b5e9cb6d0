-- One more class.
use Rattle.std.proofs.Common.{All, take_all, subst}
use Rattle.std.proofs.lemmas.List.Elements.{All-nil, All-more}
use Rattle.fvn_combine_inferring.specs.inner.Sizes.{IsNoSummand}
use Rattle.fvn_combine_inferring.proofs.differing.candidate.Goals as goal

pub loop-l-init : goal.loop-l-init
loop-l-init c = All-nil (IsNoSummand c.args.sig.now c.args.table.now c.args.state.now c.args.known.now.sorted c.args.addition.now.operator c.args.k)

pub is_no_summand-requires-clause-other : goal.is_no_summand-requires-clause-other
is_no_summand-requires-clause-other c = c.requires.list c.loop-l.l-index 0 c.loop-l-test.true

pub returns-then-not-is_no_summand : goal.returns-then-not-is_no_summand
returns-then-not-is_no_summand c = c.requires.list c.loop-l.l-index 0 c.loop-l-test.true

pub loop-l-preserved : goal.loop-l-preserved
loop-l-preserved c =
    All-more (IsNoSummand c.args.sig.now c.args.table.now c.args.state.now c.args.known.now.sorted c.args.addition.now.operator c.args.k) c.args.list.now c.loop-l.l-index 0 c.loop-l-test.true c.loop-l.invariant (c.is_no_summand.ensures c.if-not-is_no_summand.false)

pub returns : goal.returns
returns c = subst (All (IsNoSummand c.args.sig.now c.args.table.now c.args.state.now c.args.known.now.sorted c.args.addition.now.operator c.args.k)) (take_all c.loop-l.l-index c.args.list.now c.loop-l-test.false) c.loop-l.invariant
