-- What is bound so far fits.
use Rattle.fvn_flat.specs.Bindings.{BindingsFit}
use Rattle.fvn_tests_samples.proofs.substs.subst_of.Given as goal

abbrev pub invariant-loop-pair : goal.invariant-loop-pair
invariant-loop-pair l =
    (goal.iterator-loop-pair).can_next l.pair-iterator × (goal.iterator-loop-pair).is_finite l.pair-iterator × BindingsFit l.sig l.s
