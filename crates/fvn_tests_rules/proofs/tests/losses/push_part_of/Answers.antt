-- What the module keeps of its equations.
use Rattle.fvn_tests_rules.proofs.tests.losses.push_part_of.Goals as goal

pub push_part-requires : goal.push_part-requires
push_part-requires c = rw (c.signature.ensures, c.equations.ensures) c.recall_readable.ensures.equations
