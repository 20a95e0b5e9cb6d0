-- None so far is over the greatest.
use Rattle.std.proofs.Common.{◌≤◌, take}
use Rattle.std.specs.List.{All}
use Rattle.fvn_lindio.proofs.answer.has_wide.Given as goal

abbrev pub invariant-loop-a : goal.invariant-loop-a
invariant-loop-a l = All (λ a. a ≤ 65535) (take l.a-index l.parts)
