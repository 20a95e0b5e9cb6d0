-- what the module keeps of its equations
use Rattle.fvn_tests_folding.proofs.tests.theories.explored_in_module.Goals as goal

pub explored_in-requires-clause-readable : goal.explored_in-requires-clause-readable
explored_in-requires-clause-readable g c lives order = rw (c.signature.ensures, c.equations.ensures) c.recall_readable.ensures.equations
