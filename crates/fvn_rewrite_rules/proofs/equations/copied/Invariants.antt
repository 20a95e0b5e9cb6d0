-- The equations so far.
use Rattle.std.proofs.Common.{◌≡◌, take}
use Rattle.fvn_rewrite_rules.proofs.equations.copied.Given as goal

abbrev pub invariant-loop-e : goal.invariant-loop-e
invariant-loop-e l = l.all.items ≡ take l.e-index l.equations
