-- The entries that are left decide.
use Rattle.std.proofs.Common.{◌≡◌, [], drop}
use Rattle.fvn_weights_reading.specs.inner.Steps.{are_new}
use Rattle.fvn_weights_reading.proofs.once.are_once.Given as goal

-- the entries that are left decide
abbrev pub invariant-loop-entry : goal.invariant-loop-entry
invariant-loop-entry l = are_new [] l.list ≡ are_new l.texts (drop l.entry-index l.list)
