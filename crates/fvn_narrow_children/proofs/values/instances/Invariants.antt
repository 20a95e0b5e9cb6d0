-- The instances so far.
use Rattle.std.proofs.Common.{◌≡◌, map, take}
use Rattle.fvn_forms.specs.Canon.{inst}
use Rattle.fvn_flat.specs.Bindings.{value}
use Rattle.fvn_narrow_children.proofs.values.instances.Given as goal

abbrev pub invariant-loop-t : goal.invariant-loop-t
invariant-loop-t l = l.us.items ≡ map (inst l.sig (value l.s)) (take l.t-index l.ts)
