-- What is noted so far heads the values.
use Rattle.std.proofs.Common.{◌≡◌}
use Rattle.fvn_combine_inferring.proofs.heads.note_large.Given as goal
use Rattle.fvn_combine_inferring.specs.Inferred.{TellHeads}

abbrev pub invariant-loop-i : goal.invariant-loop-i
invariant-loop-i l = record {
  heads : TellHeads l.sig l.table l.state l.known.sorted l.known.heads.items;
  sorted : l.known.sorted ≡ l.fn.known.sorted;
}
