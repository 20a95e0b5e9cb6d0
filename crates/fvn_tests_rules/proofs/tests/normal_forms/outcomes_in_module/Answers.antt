-- What the module keeps of its equations.
use Rattle.fvn_tests_rules.proofs.tests.normal_forms.outcomes_in_module.Goals as goal

pub outcomes_in-requires : goal.outcomes_in-requires
outcomes_in-requires c = rw (c.signature.ensures, c.equations.ensures) c.recall_readable.ensures.equations
