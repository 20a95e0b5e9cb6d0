-- What the module keeps of its equations.
use Rattle.fvn_tests_rules.proofs.tests.rules.shown.Goals as goal

pub extend-requires : goal.extend-requires
extend-requires c = rw (c.signature.ensures, c.equations.ensures) c.recall_readable.ensures.equations
