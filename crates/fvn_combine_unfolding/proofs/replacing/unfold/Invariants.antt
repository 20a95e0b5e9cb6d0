-- The variables so far.
use Rattle.std.proofs.Common.{take}
use Rattle.fvn_combine_unfolding.proofs.Values.{IsUnfoldedFor}
use Rattle.fvn_combine_unfolding.proofs.replacing.unfold.Given as goal

abbrev pub invariant-loop-x : goal.invariant-loop-x
invariant-loop-x l = IsUnfoldedFor l.sig l.list.bindings (take l.x-index l.vars) l.s
