-- The pairs so far are flattened.
use Rattle.std.proofs.Common.{◌≡◌, take}
use Rattle.fvn_flat.specs.Problems.{flat_pairs}
use Rattle.fvn_cmd_unify.specs.Asked.{pairs_of}
use Rattle.fvn_cmd_unify.proofs.pairs.flattened.Given as goal

abbrev pub invariant-loop-left : goal.invariant-loop-left
invariant-loop-left l = l.all.items ≡ flat_pairs l.signature (pairs_of (take l.left-index l.pairs))
