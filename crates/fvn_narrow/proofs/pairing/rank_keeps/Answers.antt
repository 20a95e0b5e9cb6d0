-- One argument more.
use Rattle.std.proofs.Common.{◌∙◌, refl, subst}
use Rattle.std.specs.Prelude.{All}
use Rattle.std.proofs.lemmas.List.{take_all}
use Rattle.fvn_terms.specs.declared.plain.SortId.{SortId}
use Rattle.fvn_terms.specs.Signature.{AtOrBelow}
use Rattle.fvn_narrow.proofs.Keeping.{all_more}
use Rattle.fvn_narrow.proofs.pairing.rank_keeps.Goals as goal

pub loop-q-preserved : goal.loop-q-preserved
loop-q-preserved c = all_more (λ (q : SortId). AtOrBelow c.args.sig.now q c.args.s) c.as_slice-q-items.result.now c.loop-q.q-index _ c.loop-q-test.true c.loop-q.invariant (c.if-not-leq-2.ensures.0 refl)

pub returns : goal.returns
returns c = λ yes low. subst (All (λ (q : SortId). AtOrBelow c.args.sig.now q c.args.s)) (take_all c.loop-q.q-index c.as_slice-q-items.result.now c.loop-q-test.false ∙ c.as_slice-q-items.ensures) c.loop-q.invariant
