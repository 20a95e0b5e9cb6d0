-- The pairs in both directions are of sorts that were collected.
use Rattle.std.proofs.Common.{◌≡◌, ap, ◌∙◌}
use Rattle.fvn_signature_draft.specs.Collected.{both_ways}
use Rattle.fvn_signature_draft.proofs.Parts.{both_ways-in_range}
use Rattle.fvn_signature_draft.proofs.kinds.kinds_of_sorts.Goals as goal

pub closure-requires-clause-in_range : goal.closure-requires-clause-in_range
closure-requires-clause-in_range c =
    let h = both_ways-in_range c.args.collected.now c.args.collected.now.sorts c.args.collected.now.below c.requires.closed.below in
    let all : c.as_slice-2.result.now ≡ both_ways c.args.collected.now.below = c.as_slice-2.ensures.value ∙ c.in_ok-pairs.ensures ∙ ap both_ways c.as_slice.ensures in
    rw all h
