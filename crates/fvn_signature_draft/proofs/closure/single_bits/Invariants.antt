-- The invariant of the words with one bit each.
use Rattle.std.proofs.Common.{◌≡◌, ◌^◌, map}
use Rattle.std.specs.List.{range_with_len}
use Rattle.fvn_signature_draft.proofs.closure.single_bits.Given as goal

-- the words so far
abbrev pub invariant-loop-k : goal.invariant-loop-k
invariant-loop-k l = l.words.items ≡ map (λ k. 2 ^ k) (range_with_len 0 l.k)
