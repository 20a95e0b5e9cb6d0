-- The words, with one more that has gained.
use Rattle.std.proofs.Common.{◌<◌, arith, get_or, length, ℕ}
use Rattle.std.proofs.lemmas.List.{get_or_default}
use Rattle.std.proofs.lemmas.List.Edits.{map_over_more}
use Rattle.fvn_signature_draft.specs.inner.Words.{gaining}
use Rattle.fvn_signature_draft.proofs.closure.gain.Goals as goal

pub loop-word-preserved : goal.loop-word-preserved
loop-word-preserved c =
    let word : ℕ = get_or c.loop-word.word-items c.loop-word.word-index 0 in
    let within : c.loop-word.word-index < length c.loop-word.word-items = omega arith in
    rw c.gaining.ensures (map_over_more (gaining c.args.low c.index-gained.result.now) c.deref_mut-word-items.result.now c.loop-word.word-items c.loop-word.word-index word c.loop-word-test.true c.loop-word.invariant (get_or_default c.loop-word.word-items c.loop-word.word-index 0 word within))
