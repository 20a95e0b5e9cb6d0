-- A small problem may be given.
use Rattle.fvn_tests_combine.proofs.tests.given.is_given.Goals as goal

pub returns : goal.returns
returns c told = (c.in_ok-given.ensures told, c.is_small.ensures c.if-not-is_small.false)
