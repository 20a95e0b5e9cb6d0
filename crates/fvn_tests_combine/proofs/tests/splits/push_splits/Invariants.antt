-- Less is left to do.
use Rattle.fvn_purify.specs.Weight.{cursor_weight}
use Rattle.fvn_tests_combine.proofs.tests.splits.push_splits.Given as goal

abbrev pub decreases-given : goal.decreases-given
decreases-given l = cursor_weight l.cursor
