-- What is noted holds.
use Rattle.std.proofs.Common.{All}
use Rattle.fvn_combine_inferring.specs.Rows.{IsHeld}
use Rattle.fvn_combine_inferring.proofs.held.held_parts.Given as goal

abbrev pub invariant-loop-sums : goal.invariant-loop-sums
invariant-loop-sums l = All (IsHeld l.sig l.table l.state l.known.sorted) l.held.items
