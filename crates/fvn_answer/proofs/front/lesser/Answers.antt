-- The one text, or the other.
use Rattle.std.proofs.Common.{sym, ap, ◌∙◌}
use Rattle.std.specs.Ordering.{is_lt}
use Rattle.fvn_answer.proofs.Fronts.{at_least-itself, lt-at_least, no-lt-at_least}
use Rattle.fvn_answer.proofs.front.lesser.Goals as goal

pub returns-then-is_lt-clause-first : goal.returns-then-is_lt-clause-first
returns-then-is_lt-clause-first c = at_least-itself c.args.v.items

pub returns-then-is_lt-clause-second : goal.returns-then-is_lt-clause-second
returns-then-is_lt-clause-second c = lt-at_least c.args.v.items c.args.w.items (sym (c.is_lt.ensures ∙ ap is_lt c.cmp.ensures) ∙ c.if-is_lt.true)

pub returns-else-is_lt-clause-first : goal.returns-else-is_lt-clause-first
returns-else-is_lt-clause-first c = no-lt-at_least c.args.v.items c.args.w.items (sym (c.is_lt.ensures ∙ ap is_lt c.cmp.ensures) ∙ c.if-is_lt.false)

pub returns-else-is_lt-clause-second : goal.returns-else-is_lt-clause-second
returns-else-is_lt-clause-second c = at_least-itself c.args.w.items
