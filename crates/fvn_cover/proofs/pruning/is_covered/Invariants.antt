-- none so far covers the variant
use Rattle.std.proofs.Common.{take}
use Rattle.std.specs.Prelude.{All}
use Rattle.fvn_cover.specs.Covering.{CoversVariant}
use Rattle.fvn_cover.proofs.pruning.is_covered.Given as goal

abbrev pub invariant-loop-k : goal.invariant-loop-k
invariant-loop-k l = All (λ k. CoversVariant l.sig k l.v → ⊥) (take l.k-index l.list)
