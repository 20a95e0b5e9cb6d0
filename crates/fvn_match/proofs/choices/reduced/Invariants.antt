-- going on with what is left gives the whole
use Rattle.std.proofs.Common.{◌≡◌, ◌++◌, drop}
use Rattle.fvn_match.specs.inner.Choices.{reduced}
use Rattle.fvn_match.proofs.choices.reduced.Given as goal

abbrev pub invariant-loop-i : goal.invariant-loop-i
invariant-loop-i l = l.all.items ++ reduced l.k (drop l.i l.ns) (drop l.i l.chosen) ≡ reduced l.k l.ns l.chosen
