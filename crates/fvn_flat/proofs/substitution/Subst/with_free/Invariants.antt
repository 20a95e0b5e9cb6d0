-- The pairs for free variables so far.
use Rattle.std.proofs.Common.{◌≡◌, ◌++◌, take}
use Rattle.fvn_flat.specs.Bindings.{chosen, is_free}
use Rattle.fvn_flat.proofs.substitution.Subst.with_free.Given as goal

abbrev pub invariant-loop-x : goal.invariant-loop-x
invariant-loop-x l = l.all.items ≡ l.initial.all.items ++ chosen (is_free l.self) (take l.x-index l.x-items)
