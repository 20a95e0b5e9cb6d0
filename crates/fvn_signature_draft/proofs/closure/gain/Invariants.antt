-- The invariant of the words that gain a bit each.
use Rattle.std.proofs.Common.{◌≡◌, ◌++◌, map, take, drop}
use Rattle.fvn_signature_draft.specs.inner.Words.{gaining}
use Rattle.fvn_signature_draft.proofs.closure.gain.Given as goal

-- the first words have gained, the others are as they were
abbrev pub invariant-loop-word : goal.invariant-loop-word
invariant-loop-word l = l.word-items ≡ map (gaining l.low l.gained) (take l.word-index l.initial.word-items) ++ drop l.word-index l.initial.word-items
