-- What is noted holds.
use Rattle.std.proofs.Common.{All}
use Rattle.fvn_combine_inferring.specs.Rows.{IsHeld}
use Rattle.fvn_combine_inferring.proofs.held.note_wholes.Given as goal

abbrev pub invariant-loop-k : goal.invariant-loop-k
invariant-loop-k l = All (IsHeld l.sig l.table l.state l.known.sorted) l.held.items
