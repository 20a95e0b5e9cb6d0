-- The operators of the subterms so far.
use Rattle.std.proofs.Common.{take}
use Rattle.fvn_combine_reading.specs.inner.Reading.{AreOperatorsAmong}
use Rattle.fvn_combine_reading.proofs.operators.sum_operators.Given as goal

abbrev pub invariant-loop-i : goal.invariant-loop-i
invariant-loop-i l = AreOperatorsAmong l.sig l.table (take l.i-index l.table.subterms) l.list.items
