-- The distances so far.
use Rattle.std.proofs.Common.{◌≤◌, ◌*◌, take}
use Rattle.std.specs.List.{All}
use Rattle.fvn_lindio.specs.Systems.{above, below}
use Rattle.fvn_lindio.proofs.generators.reach_of.Given as goal

abbrev pub invariant-loop-p : goal.invariant-loop-p
invariant-loop-p l =
    All (λ p. below p.value ≤ l.low) (take l.p-index l.points) × All (λ p. above p.value ≤ l.high) (take l.p-index l.points)
    × (l.low ≤ 1000 * 65535 * 65535) × (l.high ≤ 1000 * 65535 * 65535)
