-- The substitutions so far.
use Rattle.std.proofs.Common.{◌≡◌, map}
use Rattle.fvn_vunify.proofs.unify.unifiers_of.Given as goal

abbrev pub invariant-loop-u : goal.invariant-loop-u
invariant-loop-u l = l.all.items ≡ map (λ u. u.subst) l.yielded
