-- The invariant of the closure under the first pairs.
use Rattle.std.proofs.Common.{take}
use Rattle.fvn_signature.specs.Words.{IsClosure}
use Rattle.fvn_signature_draft.proofs.closure.closure.Given as goal

-- where the first pairs lead
abbrev pub invariant-loop-pair : goal.invariant-loop-pair
invariant-loop-pair l = IsClosure l.sorts (take l.pair-index l.pairs) l.words.items
