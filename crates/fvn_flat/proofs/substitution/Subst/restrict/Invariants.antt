-- The pairs of listed variables so far.
use Rattle.std.proofs.Common.{◌≡◌, take}
use Rattle.fvn_flat.specs.Bindings.{chosen}
use Rattle.fvn_flat.specs.Variables.{listed}
use Rattle.fvn_flat.proofs.substitution.Subst.restrict.Given as goal

abbrev pub invariant-loop-x : goal.invariant-loop-x
invariant-loop-x l = l.pairs.items ≡ chosen (listed l.vars) (take l.x-index l.x-items)
