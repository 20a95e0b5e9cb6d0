-- the values of the variables so far
use Rattle.std.proofs.Common.{◌≡◌, map, take}
use Rattle.fvn_flat.specs.Bindings.{value}
use Rattle.fvn_cover.proofs.values.values.Given as goal

abbrev pub invariant-loop-x : goal.invariant-loop-x
invariant-loop-x l = l.ts.items ≡ map (value l.v.subst) (take l.x-index l.x-items)
