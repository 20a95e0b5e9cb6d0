-- the order is a numbering
use Rattle.std.proofs.Common.{◌≤◌, ◌+◌}
use Rattle.fvn_answer.specs.Numberings.{IsNumbering}
use Rattle.fvn_answer.specs.Lines.{forms_in}
use Rattle.fvn_answer.specs.inner.Shown.{shown}
use Rattle.fvn_answer.proofs.search.with_first.Given as goal

abbrev pub invariant-loop-j : goal.invariant-loop-j
invariant-loop-j l = IsNumbering (forms_in (shown l.printed)) l.other.items × (l.i + 1 ≤ l.j)
