-- The invariant of the kinds of some sorts.
use Rattle.std.proofs.Common.{◌≡◌, map, take}
use Rattle.fvn_terms.specs.Signature.{kind}
use Rattle.fvn_sorts.proofs.conditions.stages.kinds_of_sorts.Given as goal

-- the kinds so far
abbrev pub invariant-loop-s : goal.invariant-loop-s
invariant-loop-s l = l.kinds.items ≡ map (kind l.declarations) (take l.s-index l.sorts)
