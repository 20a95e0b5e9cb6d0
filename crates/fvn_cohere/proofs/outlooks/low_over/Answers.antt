-- One bound more, and the result over all.
use Rattle.std.proofs.Common.{List, take, Some, sym, ap, ◌∙◌, subst}
use Rattle.std.specs.List.{AllZip}
use Rattle.std.proofs.lemmas.List.{take_all}
use Rattle.fvn_cohere.specs.declared.outlooks.Outlook.{Outlook}
use Rattle.fvn_cohere.specs.inner.Outlooks.{lows_of, IsLow}
use Rattle.fvn_cohere.proofs.Foreseen.{low_result}
use Rattle.fvn_cohere.proofs.outlooks.low_over.Goals as goal

pub returns : goal.returns
returns c = λ ss h t.
    let d = c.args.sig.now in
    let list : List Outlook = c.args.parts.now in
    low_result d c.recall_good.ensures c.args.f (take c.loop-part.i c.loop-part.sorts) ss (Some c.result.result) (ap Some c.result.ensures.exact)
    (subst (λ l. AllZip (IsLow d) l ss) (sym (c.loop-part.invariant.sorts ∙ ap lows_of (take_all c.loop-part.part-index list c.loop-part-test.false))) h) t
