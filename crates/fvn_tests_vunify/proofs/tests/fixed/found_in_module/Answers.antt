-- What the module keeps of its equations.
use Rattle.fvn_tests_vunify.proofs.tests.fixed.found_in_module.Goals as goal

pub found_in-requires-clause-readable : goal.found_in-requires-clause-readable
found_in-requires-clause-readable g c lives order = rw (c.signature.ensures, c.equations.ensures) c.recall_readable.ensures.equations
