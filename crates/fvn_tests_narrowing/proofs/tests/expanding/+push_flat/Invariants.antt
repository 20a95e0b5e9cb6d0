-- The arguments are smaller than the form.
use Rattle.fvn_flat.specs.Weight.{places}
use Rattle.fvn_tests_narrowing.proofs.tests.expanding.+push_flat.Given as goal

abbrev pub decreases-push_flat : goal.decreases-push_flat
decreases-push_flat l = places l.t.now
