-- none so far covers the variant, and where none is open the variant covers none
use Rattle.std.proofs.Common.{◌≡◌, false, take}
use Rattle.std.specs.Prelude.{All}
use Rattle.fvn_cover.specs.Covering.{CoversVariant}
use Rattle.fvn_cover.proofs.pruning.looked_through.Given as goal

abbrev pub invariant-loop-k : goal.invariant-loop-k
invariant-loop-k l = record {
  free : All (λ k. CoversVariant l.sig k l.v → ⊥) (take l.k-index l.list);
  covers : l.open ≡ false → All (λ k. CoversVariant l.sig l.v k → ⊥) (take l.k-index l.list);
}
