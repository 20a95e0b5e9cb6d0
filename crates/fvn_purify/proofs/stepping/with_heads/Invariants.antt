-- The heads so far.
use Rattle.std.proofs.Common.{◌≡◌, [], ◌∷◌, ◌++◌, map, take}
use Rattle.fvn_purify.specs.inner.Choices.{chosen}
use Rattle.fvn_purify.proofs.stepping.with_heads.Given as goal

abbrev pub invariant-loop-head : goal.invariant-loop-head
invariant-loop-head l = l.list.items ≡ map (λ h. chosen l.leaf.state (l.leaf.heads ++ h ∷ []) l.leaf.swaps) (take l.head-index l.options)
