-- What is kept so far.
use Rattle.std.proofs.Common.{take}
use Rattle.fvn_combine_inferring.specs.inner.Lists.{IsWithout}
use Rattle.fvn_combine_inferring.proofs.cancelling.without.Given as goal

abbrev pub invariant-loop-x : goal.invariant-loop-x
invariant-loop-x l = IsWithout l.given (take l.x-index l.list) l.kept.items
