-- Each number so far once.
use Rattle.std.proofs.Common.{◌≡◌, take}
use Rattle.fvn_combine_tree.specs.inner.Drafts.{once_each}
use Rattle.fvn_combine_tree.proofs.building.once.Given as goal

abbrev pub invariant-loop-i : goal.invariant-loop-i
invariant-loop-i l = l.list.items ≡ once_each (take l.i-index l.walk)
