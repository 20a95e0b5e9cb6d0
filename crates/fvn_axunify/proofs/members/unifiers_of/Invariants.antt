-- The unifiers so far.
use Rattle.std.proofs.Common.{◌≡◌, map}
use Rattle.fvn_axunify.proofs.members.unifiers_of.Given as goal

abbrev pub invariant-loop-v : goal.invariant-loop-v
invariant-loop-v l = l.all.items ≡ map (λ v. v.subst) l.yielded
