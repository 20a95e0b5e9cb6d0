-- What is noted so far, and what the next row says.
use Rattle.std.proofs.Common.{◌<◌, length, subst}
use Rattle.fvn_combine_inferring.proofs.held.note_sums.Goals as goal

pub addition_of-requires-clause-heads : goal.addition_of-requires-clause-heads
addition_of-requires-clause-heads c = c.requires.heads.as_many

pub loop-i-init : goal.loop-i-init
loop-i-init c = c.requires.held

pub note_at-requires-clause-within : goal.note_at-requires-clause-within
note_at-requires-clause-within c = subst (λ ns. c.loop-i.i < length ns) c.nodes-i-end.ensures c.loop-i-test.true

pub loop-i-preserved : goal.loop-i-preserved
loop-i-preserved c = c.in_ok-note_at.ensures

pub returns : goal.returns
returns c = c.loop-i.invariant
