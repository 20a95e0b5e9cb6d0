-- One pair more.
use Rattle.std.proofs.Common.{sym, subst, take}
use Rattle.std.proofs.lemmas.List.{take_all}
use Rattle.fvn_match.specs.inner.Goals.{with_bindings, IsBoundTo}
use Rattle.fvn_match.proofs.TakingApart.{with_bindings-more}
use Rattle.fvn_match.proofs.goals.newest.Goals as goal

pub loop-pair-preserved : goal.loop-pair-preserved
loop-pair-preserved c = λ b h.
    subst (λ l. IsBoundTo l c.args.v c.newer-found.result) (sym (with_bindings-more b c.args.pairs.now c.loop-pair.pair-index c.pair-item.result c.loop-pair-test.true c.pair-item.is))
    (c.newer-found.ensures (with_bindings b (take c.loop-pair.pair-index c.args.pairs.now)) (c.loop-pair.invariant b h))

pub returns : goal.returns
returns c = λ b h. subst (λ l. IsBoundTo (with_bindings b l) c.args.v c.loop-pair.found) (take_all c.loop-pair.pair-index c.args.pairs.now c.loop-pair-test.false) (c.loop-pair.invariant b h)
