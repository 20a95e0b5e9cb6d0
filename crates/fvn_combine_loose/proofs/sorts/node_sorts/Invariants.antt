-- What is noted so far, of as many nodes.
use Rattle.std.proofs.Common.{◌≡◌, length}
use Rattle.fvn_combine_loose.specs.inner.NodeSorts.{HaveSorts}
use Rattle.fvn_combine_loose.proofs.sorts.node_sorts.Given as goal

abbrev pub invariant-loop-i : goal.invariant-loop-i
invariant-loop-i l = (length l.sorts.items ≡ l.i) × HaveSorts l.sig l.table.nodes l.sorts.items
