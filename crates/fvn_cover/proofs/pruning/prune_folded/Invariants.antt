-- the members so far are pruned, and what is left of them are some of them
use Rattle.std.specs.Prelude.{All, Contains}
use Rattle.fvn_cover.specs.Covering.{AreAlike, IsFlatVariant}
use Rattle.fvn_cover.specs.Pruning.{IsPruned}
use Rattle.fvn_cover.proofs.pruning.prune_folded.Given as goal

abbrev pub invariant-loop-v : goal.invariant-loop-v
invariant-loop-v l = IsPruned l.sig l.yielded l.kept.items × All (λ k. IsFlatVariant l.sig k × All (AreAlike k) l.fn.list.items) l.kept.items × All (Contains l.yielded) l.kept.items
