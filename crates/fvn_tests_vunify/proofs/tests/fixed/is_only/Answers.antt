-- The list has one variable.
use Rattle.std.proofs.Common.{◌∙◌, arith}
use Rattle.fvn_tests_vunify.proofs.Asking.{only_one}
use Rattle.fvn_tests_vunify.proofs.tests.fixed.is_only.Goals as goal

pub returns : goal.returns
returns c = λ t. only_one c.args.vars.now c.args.first.now _ (omega (arith, c.if-vars-ne1.false)) (c.same.ensures.exact.0 t ∙ c.var-only.ensures)
