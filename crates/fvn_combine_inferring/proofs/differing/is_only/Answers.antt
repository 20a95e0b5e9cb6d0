-- One more class.
use Rattle.std.proofs.Common.{All, take_all, subst}
use Rattle.std.proofs.lemmas.List.Elements.{All-nil, All-more}
use Rattle.fvn_combine_inferring.specs.inner.Sizes.{IsNoSummand}
use Rattle.fvn_combine_inferring.specs.inner.Bounds.{IsItOr}
use Rattle.fvn_combine_inferring.proofs.differing.is_only.Goals as goal

pub loop-x-init : goal.loop-x-init
loop-x-init c = All-nil (IsItOr (IsNoSummand c.args.sig.now c.args.table.now c.args.state.now c.args.known.now.sorted c.args.addition.now.operator c.args.k) c.args.l)

pub is_passed-requires-clause-other : goal.is_passed-requires-clause-other
is_passed-requires-clause-other c = c.requires.list c.loop-x.x-index 0 c.loop-x-test.true

pub loop-x-preserved : goal.loop-x-preserved
loop-x-preserved c =
    All-more (IsItOr (IsNoSummand c.args.sig.now c.args.table.now c.args.state.now c.args.known.now.sorted c.args.addition.now.operator c.args.k) c.args.l) c.args.list.now c.loop-x.x-index 0 c.loop-x-test.true c.loop-x.invariant (c.is_passed.ensures c.if-not-is_passed.false)

pub returns : goal.returns
returns c t = subst (All (IsItOr (IsNoSummand c.args.sig.now c.args.table.now c.args.state.now c.args.known.now.sorted c.args.addition.now.operator c.args.k) c.args.l)) (take_all c.loop-x.x-index c.args.list.now c.loop-x-test.false) c.loop-x.invariant
