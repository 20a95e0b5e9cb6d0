-- The ways so far.
use Rattle.std.proofs.Common.{◌≡◌, [], ◌∷◌, ◌++◌, map, take}
use Rattle.fvn_purify.specs.inner.Choices.{chosen}
use Rattle.fvn_purify.proofs.stepping.with_ways.Given as goal

abbrev pub invariant-loop-crossed : goal.invariant-loop-crossed
invariant-loop-crossed l = l.list.items ≡ map (λ w. chosen l.leaf.state l.leaf.heads (l.leaf.swaps ++ w ∷ [])) (take l.crossed-index l.options)
