-- The variables that are left decide.
use Rattle.std.proofs.Common.{◌≡◌, drop}
use Rattle.fvn_cohere.specs.inner.Outlooks.{offered}
use Rattle.fvn_cohere.proofs.outlooks.offered.Given as goal

abbrev pub invariant-loop-v : goal.invariant-loop-v
invariant-loop-v l = offered l.fn.unchosen l.x ≡ offered (drop l.v-index l.unchosen) l.x
