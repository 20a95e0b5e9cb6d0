-- How many zeros there are so far.
use Rattle.std.proofs.Common.{◌≡◌, length}
use Rattle.fvn_combine_tree.proofs.chains.zeros.Given as goal

abbrev pub invariant-loop-i : goal.invariant-loop-i
invariant-loop-i l = length l.list.items ≡ l._i
