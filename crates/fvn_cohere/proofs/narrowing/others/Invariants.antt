-- The others so far.
use Rattle.std.proofs.Common.{◌≡◌, take}
use Rattle.fvn_cohere.specs.inner.Narrowing.{others_of}
use Rattle.fvn_cohere.proofs.narrowing.others.Given as goal

abbrev pub invariant-loop-v : goal.invariant-loop-v
invariant-loop-v l = l.all.items ≡ others_of l.x (take l.v-index l.unchosen)
