-- The closure, with one pair more.
use Rattle.std.proofs.Common.{get_or}
use Rattle.std.proofs.lemmas.List.{take_more}
use Rattle.fvn_terms.specs.declared.plain.SortId.{SortId}
use Rattle.fvn_forms.specs.SortOrder.{sort_number}
use Rattle.fvn_signature_draft.proofs.Closures.{IsClosure-none, IsClosure-push}
use Rattle.fvn_signature_draft.proofs.closure.closure.Goals as goal

pub loop-pair-init : goal.loop-pair-init
loop-pair-init c = rw c.in_ok-words.ensures (IsClosure-none c.args.sorts)

pub loop-pair-preserved : goal.loop-pair-preserved
loop-pair-preserved c =
    let d : SortId × SortId = (sort_number 0, sort_number 0) in
    let pair : SortId × SortId = get_or c.args.pairs.now c.loop-pair.pair-index d in
    let within = c.requires.in_range c.loop-pair.pair-index d c.loop-pair-test.true in
    let pushed = IsClosure-push c.args.sorts _ pair c.loop-pair.words.items within.0 within.1 c.requires.few c.loop-pair.invariant in
    rw (take_more c.args.pairs.now c.loop-pair.pair-index d c.loop-pair-test.true, c.gain.ensures, c.from.ensures) pushed
