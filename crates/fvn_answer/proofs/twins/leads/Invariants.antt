-- it goes before those so far
use Rattle.std.proofs.Common.{◌≤◌, ◌+◌}
use Rattle.fvn_answer.specs.inner.Twins.{LeadsUpTo}
use Rattle.fvn_answer.proofs.twins.leads.Given as goal

abbrev pub invariant-loop-i : goal.invariant-loop-i
invariant-loop-i l = LeadsUpTo l.signature l.printed l.order l.k l.i × (l.k + 1 ≤ l.i)
