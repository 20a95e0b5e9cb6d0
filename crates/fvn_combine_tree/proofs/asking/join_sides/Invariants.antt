-- The sides so far are joined.
use Rattle.std.proofs.Common.{take}
use Rattle.fvn_combine_tree.specs.inner.Closing.{state_of}
use Rattle.fvn_combine_tree.specs.inner.Starts.{IsJoinedFrom}
use Rattle.fvn_combine_tree.proofs.asking.join_sides.Given as goal

abbrev pub invariant-loop-l : goal.invariant-loop-l
invariant-loop-l l = IsJoinedFrom (take l.l-index l.sides) (state_of l.fn.closing) (state_of l.closing)
