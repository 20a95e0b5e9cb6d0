-- The last vectors so far do not stand before the vector.
use Rattle.std.proofs.Common.{ℕ, List, ◌<◌, ◌-◌, get_or, length}
use Rattle.fvn_base.specs.Order.{IsBefore}
use Rattle.fvn_lindio.specs.Systems.{vectors_of}
use Rattle.fvn_combine_candidates.proofs.alive.place_of.Given as goal

abbrev pub invariant-loop-i : goal.invariant-loop-i
invariant-loop-i l = (d : List ℕ) → 0 < l.i → IsBefore (get_or (vectors_of l.list) (length l.list - l.i) d) l.parts → ⊥
