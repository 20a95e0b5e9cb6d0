-- One rank more.
use Rattle.std.proofs.Common.{sym, ◌∙◌, arith}
use Rattle.std.proofs.lemmas.Bool.{false≢true}
use Rattle.fvn_terms.specs.Signature.{AtOrBelow}
use Rattle.fvn_match.proofs.HighSums.{none_first, one_more, all_ranks}
use Rattle.fvn_match.proofs.wholes.gives_none.Goals as goal

pub loop-i-init : goal.loop-i-init
loop-i-init c = none_first c.args.sig.now c.args.f (λ r. AtOrBelow c.args.sig.now r.result c.args.s → ⊥)

pub loop-i-preserved : goal.loop-i-preserved
loop-i-preserved c =
    one_more c.args.sig.now c.args.f (λ r. AtOrBelow c.args.sig.now r.result c.args.s → ⊥) c.loop-i.i c.loop-i.invariant c.rank-one.result.now c.rank-one.ensures
    (λ low. false≢true (sym c.if-may.false ∙ c.gives-may.ensures.1 low))

pub returns : goal.returns
returns c = λ yes.
    all_ranks c.args.sig.now c.args.f (λ r. AtOrBelow c.args.sig.now r.result c.args.s → ⊥) c.loop-i.i (omega (arith, c.loop-i-test.false, c.rank_count-i-end.ensures)) c.loop-i.invariant
