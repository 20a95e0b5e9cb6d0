-- the order is a numbering
use Rattle.fvn_answer.specs.Numberings.{IsNumbering}
use Rattle.fvn_answer.specs.Lines.{forms_in}
use Rattle.fvn_answer.specs.inner.Shown.{shown}
use Rattle.fvn_answer.proofs.search.in_order.Given as goal

abbrev pub invariant-loop-i : goal.invariant-loop-i
invariant-loop-i l = IsNumbering (forms_in (shown l.printed)) l.other.items
