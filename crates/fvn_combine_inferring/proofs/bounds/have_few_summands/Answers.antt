-- One more class.
use Rattle.std.proofs.Common.{take_all, All, subst}
use Rattle.std.proofs.lemmas.List.Elements.{All-nil, All-more}
use Rattle.fvn_combine_inferring.specs.Rows.{HasFewSummands}
use Rattle.fvn_combine_inferring.proofs.bounds.have_few_summands.Goals as goal

pub loop-k-init : goal.loop-k-init
loop-k-init c = All-nil (HasFewSummands c.args.sig.now c.args.table.now c.args.state.now c.args.known.now.sorted c.args.addition.now.operator)

pub has_few_summands-requires-clause-within : goal.has_few_summands-requires-clause-within
has_few_summands-requires-clause-within c = c.requires.within c.loop-k.k-index 0 c.loop-k-test.true

pub loop-k-preserved : goal.loop-k-preserved
loop-k-preserved c =
    All-more (HasFewSummands c.args.sig.now c.args.table.now c.args.state.now c.args.known.now.sorted c.args.addition.now.operator) c.args.list.now c.loop-k.k-index 0 c.loop-k-test.true c.loop-k.invariant (c.has_few_summands.ensures c.if-not-has_few_summands.false)

pub returns : goal.returns
returns c t = subst (All (HasFewSummands c.args.sig.now c.args.table.now c.args.state.now c.args.known.now.sorted c.args.addition.now.operator)) (take_all c.loop-k.k-index c.args.list.now c.loop-k-test.false) c.loop-k.invariant
