-- what is left so far
use Rattle.fvn_cover.specs.Covering.{CoversVariant}
use Rattle.fvn_cover.specs.Adding.{IsLeft}
use Rattle.fvn_cover.proofs.pruning.without_covered.Given as goal

abbrev pub invariant-loop-k : goal.invariant-loop-k
invariant-loop-k l = IsLeft (CoversVariant l.sig l.v) l.yielded l.left.items
