-- The weights are those of the entries so far, and what is left decides.
use Rattle.fvn_weights_reading.proofs.Weighed.{IsWeighed}
use Rattle.fvn_weights_reading.proofs.reading.weights_of.Given as goal

-- the weights are those of the entries so far
abbrev pub invariant-loop-entry : goal.invariant-loop-entry
invariant-loop-entry l = IsWeighed l.signature l.names l.entries l.entry-index l.list.items
