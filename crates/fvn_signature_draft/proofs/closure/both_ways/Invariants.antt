-- The invariant of the pairs and their turned copies.
use Rattle.std.proofs.Common.{◌≡◌, ◌++◌, map, take}
use Rattle.fvn_signature_draft.specs.Collected.{turned}
use Rattle.fvn_signature_draft.proofs.closure.both_ways.Given as goal

-- all pairs, and the first ones turned
abbrev pub invariant-loop-pair : goal.invariant-loop-pair
invariant-loop-pair l = l.all.items ≡ l.pairs ++ map turned (take l.pair-index l.pairs)
