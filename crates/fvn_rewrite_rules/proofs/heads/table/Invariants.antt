-- The table for the operators so far.
use Rattle.fvn_rewrite_rules.proofs.Needed.{IsTableUpTo}
use Rattle.fvn_rewrite_rules.proofs.heads.table.Given as goal

abbrev pub invariant-loop-n : goal.invariant-loop-n
invariant-loop-n l = IsTableUpTo l.sig l.rules l.n l.all.items
