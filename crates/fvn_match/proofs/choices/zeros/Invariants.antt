-- zeros so far
use Rattle.std.proofs.Common.{◌≡◌, replicate}
use Rattle.fvn_match.proofs.choices.zeros.Given as goal

abbrev pub invariant-loop : goal.invariant-loop
invariant-loop l = l.all.items ≡ replicate l.counter 0
