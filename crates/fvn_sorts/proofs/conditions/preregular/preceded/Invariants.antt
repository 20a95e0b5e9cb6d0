-- The invariant of a list with a sort put before it.
use Rattle.std.proofs.Common.{◌≡◌, ◌∷◌, take}
use Rattle.fvn_sorts.proofs.conditions.preregular.preceded.Given as goal

-- the sort, and the first of the list
abbrev pub invariant-loop-q : goal.invariant-loop-q
invariant-loop-q l = l.all.items ≡ l.fn.s ∷ take l.q-index l.q-items
