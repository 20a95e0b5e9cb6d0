-- The arguments are smaller than the term.
use Rattle.fvn_flat.specs.Weight.{places}
use Rattle.fvn_tests_samples.proofs.showing.+push_flat.Given as goal

abbrev pub decreases-push_flat : goal.decreases-push_flat
decreases-push_flat l = places l.t.now
