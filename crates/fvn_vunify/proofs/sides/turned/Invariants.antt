-- The sides of the pairs so far.
use Rattle.std.proofs.Common.{◌≡◌}
use Rattle.fvn_vunify.specs.Sides.{sides_in_turn}
use Rattle.fvn_vunify.proofs.sides.turned.Given as goal

abbrev pub invariant-loop-pair : goal.invariant-loop-pair
invariant-loop-pair l = l.sides.items ≡ sides_in_turn l.yielded
