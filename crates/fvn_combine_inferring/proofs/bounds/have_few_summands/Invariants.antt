-- The classes so far have one summand each at most.
use Rattle.std.proofs.Common.{All, take}
use Rattle.fvn_combine_inferring.specs.Rows.{HasFewSummands}
use Rattle.fvn_combine_inferring.proofs.bounds.have_few_summands.Given as goal

abbrev pub invariant-loop-k : goal.invariant-loop-k
invariant-loop-k l = All (HasFewSummands l.sig l.table l.state l.known.sorted l.addition.operator) (take l.k-index l.list)
