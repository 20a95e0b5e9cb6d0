-- What the module keeps of its equations.
use Rattle.fvn_tests_narrowing.proofs.tests.expanding.answered_in_module.Goals as goal

pub answered_in-requires : goal.answered_in-requires
answered_in-requires c = rw (c.signature.ensures, c.equations.ensures) c.recall_readable.ensures.equations
