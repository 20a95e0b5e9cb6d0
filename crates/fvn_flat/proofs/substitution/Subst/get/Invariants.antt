-- The pairs that are left decide.
use Rattle.std.proofs.Common.{◌≡◌, drop}
use Rattle.fvn_flat.specs.Bindings.{bound}
use Rattle.fvn_flat.proofs.substitution.Subst.get.Given as goal

abbrev pub invariant-loop-x : goal.invariant-loop-x
invariant-loop-x l = bound l.self l.v ≡ bound (drop l.x-index l.x-items) l.v
