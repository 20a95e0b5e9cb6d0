-- What is given on is the minimal solutions.
use Rattle.std.proofs.Common.{Contains, subst}
use Rattle.fvn_lindio.specs.Systems.{vectors_of}
use Rattle.fvn_tests_choices.proofs.tests.theories.among.Goals as goal

pub choices_among-requires-clause-minimal : goal.choices_among-requires-clause-minimal
choices_among-requires-clause-minimal c =
    λ v h. (c.in_ok-solutions.ensures.exact v).0 (subst (λ l. Contains (vectors_of l) v) c.as_slice.ensures h)
