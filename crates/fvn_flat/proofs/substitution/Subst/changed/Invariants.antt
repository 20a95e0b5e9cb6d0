-- The changed pairs so far.
use Rattle.std.proofs.Common.{◌≡◌, take}
use Rattle.fvn_forms.specs.Canon.{inst}
use Rattle.fvn_flat.specs.Bindings.{value, changed}
use Rattle.fvn_flat.proofs.substitution.Subst.changed.Given as goal

abbrev pub invariant-loop-x : goal.invariant-loop-x
invariant-loop-x l = l.pairs.items ≡ changed (inst l.sig (value l.later)) (take l.x-index l.x-items)
