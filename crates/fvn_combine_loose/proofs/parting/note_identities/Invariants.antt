-- What is noted is parted and open.
use Rattle.std.proofs.Common.{All}
use Rattle.fvn_combine_loose.specs.Loose.{ArePartedOpen}
use Rattle.fvn_combine_loose.proofs.parting.note_identities.Given as goal

abbrev pub invariant-loop-u : goal.invariant-loop-u
invariant-loop-u l = All (ArePartedOpen l.sig l.table l.state l.sorted) l.pairs.items
