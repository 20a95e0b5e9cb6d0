-- The arguments are smaller than the form.
use Rattle.std.proofs.Common.{arith}
use Rattle.fvn_flat.proofs.Smaller.{argument_is_smaller}
use Rattle.fvn_tests_narrowing.proofs.tests.expanding.+push_flat.Goals as goal

pub push_flat-requires : goal.push_flat-requires
push_flat-requires t c = (omega (arith, argument_is_smaller c.args.t.now c.args-u-items.result.now c.loop-u.u-index c.u-item.result c.args-u-items.ensures.exact c.loop-u-test.true c.u-item.is), tt)
