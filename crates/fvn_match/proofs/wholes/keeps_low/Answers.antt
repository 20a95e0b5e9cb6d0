-- One rank more.
use Rattle.std.proofs.Common.{arith}
use Rattle.fvn_terms.specs.Signature.{AtOrBelow}
use Rattle.fvn_match.specs.inner.Refusing.{TakesLow}
use Rattle.fvn_match.proofs.HighSums.{none_first, one_more, all_ranks}
use Rattle.fvn_match.proofs.wholes.keeps_low.Goals as goal

pub loop-i-init : goal.loop-i-init
loop-i-init c = none_first c.args.sig.now c.args.f (λ r. AtOrBelow c.args.sig.now r.result c.args.s → TakesLow c.args.sig.now c.args.s r)

pub loop-i-preserved : goal.loop-i-preserved
loop-i-preserved c =
    one_more c.args.sig.now c.args.f (λ r. AtOrBelow c.args.sig.now r.result c.args.s → TakesLow c.args.sig.now c.args.s r) c.loop-i.i c.loop-i.invariant c.rank-one.result.now c.rank-one.ensures
    (c.rank_keeps_low-keeps.ensures c.if-not-keeps.false)

pub returns : goal.returns
returns c = λ yes.
    all_ranks c.args.sig.now c.args.f (λ r. AtOrBelow c.args.sig.now r.result c.args.s → TakesLow c.args.sig.now c.args.s r) c.loop-i.i (omega (arith, c.loop-i-test.false, c.rank_count-i-end.ensures)) c.loop-i.invariant
