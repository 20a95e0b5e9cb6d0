-- The bytes held are those taken, and at most the limit; each turn adds one at least.
use Rattle.std.proofs.Common.{length, ◌+◌, ◌-◌}
use Rattle.fvn_outside.proofs.SourceLemmas.{IsReadTo}
use Rattle.fvn_outside.proofs.reading.read_all.Given as goal

abbrev pub invariant-loop-bytes : goal.invariant-loop-bytes
invariant-loop-bytes g l = IsReadTo (g.S.Source.left l.initial.source) (g.S.Source.left l.source) l.bytes.items l.limit (g.S.Source.faults l.initial.source) (g.S.Source.faults l.source)

abbrev pub decreases-loop-bytes : goal.decreases-loop-bytes
decreases-loop-bytes g l = l.limit + 1 - length l.bytes.items
