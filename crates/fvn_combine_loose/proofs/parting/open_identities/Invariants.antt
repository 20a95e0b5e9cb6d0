-- What is noted is parted and open.
use Rattle.std.proofs.Common.{All}
use Rattle.fvn_combine_loose.specs.Loose.{ArePartedOpen}
use Rattle.fvn_combine_loose.proofs.parting.open_identities.Given as goal

abbrev pub invariant-loop-i : goal.invariant-loop-i
invariant-loop-i l = All (ArePartedOpen l.sig l.table l.state l.sorted) l.pairs.items
