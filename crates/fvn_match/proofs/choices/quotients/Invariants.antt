-- those of the numbers so far
use Rattle.std.proofs.Common.{◌≡◌, take}
use Rattle.fvn_match.specs.inner.Choices.{quotients}
use Rattle.fvn_match.proofs.choices.quotients.Given as goal

abbrev pub invariant-loop-n : goal.invariant-loop-n
invariant-loop-n l = l.all.items ≡ quotients l.k (take l.n-index l.ns)
