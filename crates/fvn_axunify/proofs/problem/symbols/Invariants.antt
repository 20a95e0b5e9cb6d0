-- The symbols of the pairs so far.
use Rattle.std.proofs.Common.{◌≡◌, ◌-◌, ◌^◌, take}
use Rattle.std.specs.Prelude.{min}
use Rattle.fvn_flat.specs.Solving.{symbols_of_pairs}
use Rattle.fvn_axunify.proofs.problem.symbols.Given as goal

abbrev pub invariant-loop-a : goal.invariant-loop-a
invariant-loop-a l = l.count ≡ min (symbols_of_pairs (take l.a-index l.pairs)) (2 ^ 64 - 1)
