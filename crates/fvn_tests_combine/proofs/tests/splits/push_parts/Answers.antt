-- The classes are those of the problem.
use Rattle.fvn_flat.specs.Solving.{problem_of}
use Rattle.fvn_tests_combine.proofs.tests.splits.push_parts.Goals as goal

pub push_splits-requires : goal.push_splits-requires
push_splits-requires c = record { classes = (problem_of c.args.problem.now, c.requires.kinds, c.in_ok-classes.ensures) }
