-- The rules so far.
use Rattle.std.proofs.Common.{◌≡◌, take}
use Rattle.fvn_critical.proofs.choosing.copies.Given as goal

abbrev pub invariant-loop-rule : goal.invariant-loop-rule
invariant-loop-rule l = l.all.items ≡ take l.rule-index l.rules
