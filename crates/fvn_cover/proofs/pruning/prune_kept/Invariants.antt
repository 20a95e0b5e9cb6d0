-- the members so far are pruned
use Rattle.std.specs.Prelude.{All}
use Rattle.fvn_cover.specs.Covering.{AreAlike, IsFlatVariant}
use Rattle.fvn_cover.specs.Pruning.{IsPruned}
use Rattle.fvn_cover.proofs.pruning.prune_kept.Given as goal

abbrev pub invariant-loop-v : goal.invariant-loop-v
invariant-loop-v l = IsPruned l.sig l.yielded l.kept.items × All (λ k. IsFlatVariant l.sig k × All (AreAlike k) l.fn.list.items) l.kept.items
