-- copies so far
use Rattle.std.proofs.Common.{◌≡◌, ◌++◌, replicate}
use Rattle.fvn_match.proofs.wholes.with_copies.Given as goal

abbrev pub invariant-loop : goal.invariant-loop
invariant-loop l = l.all.items ≡ l.initial.all.items ++ replicate l.counter l.t
