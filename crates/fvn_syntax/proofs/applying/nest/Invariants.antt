-- The terms that are left, and then the sum of the others, give the whole; and they become fewer.
use Rattle.std.proofs.Common.{◌≡◌, ◌∷◌, ◌++◌, [], length}
use Rattle.fvn_syntax.specs.Resolve.{nested_all}
use Rattle.fvn_syntax.proofs.applying.nest.Given as goal

-- the terms that are left and the sum of the others
abbrev pub invariant-loop-term : goal.invariant-loop-term
invariant-loop-term l = nested_all l.op l.fn.terms.items ≡ nested_all l.op (l.left.items ++ (l.whole ∷ []))

-- the terms become fewer
abbrev pub decreases-loop-term : goal.decreases-loop-term
decreases-loop-term l = length l.left.items
