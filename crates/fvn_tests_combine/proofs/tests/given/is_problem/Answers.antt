-- What is seen of the pairs makes them a problem that may be given.
use Rattle.std.proofs.Common.{zero-le}
use Rattle.fvn_tests_combine.proofs.tests.given.is_problem.Goals as goal

pub returns : goal.returns
returns c told = record {
  fit = c.requires;
  kinds = c.in_ok-are_sides.ensures c.if-not-branch.false;
  numbers = λ x listed fresh. absurd (let named = c.in_ok-named.ensures told x listed in cc);
  small = zero-le;
}
