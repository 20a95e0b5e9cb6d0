-- Each form is its own normal form, unless it is too large.
use Rattle.std.proofs.Common.{arith}
use Rattle.fvn_tests_exploring.proofs.NoEquations.{lawful, is_form, is_too_large}
use Rattle.fvn_tests_exploring.proofs.inert.InertExpander.rest.Goals as goal

pub returns-then-size-self-clause-normal : goal.returns-then-size-self-clause-normal
returns-then-size-self-clause-normal c =
    is_too_large c.args.self.now.declarations.now c.args.self.now.bounds c.args.t.now c.in_ok-form.form c.requires c.in_ok-form.ensures c.size.result c.size.ensures
    (omega (arith, c.if-size-self.true))

pub returns-then-size-self-clause-lawful : goal.returns-then-size-self-clause-lawful
returns-then-size-self-clause-lawful c = lawful c.args.self.now.declarations.now

pub returns-clause-normal : goal.returns-clause-normal
returns-clause-normal c =
    is_form c.args.self.now.declarations.now c.args.self.now.bounds c.args.t.now c.in_ok-form.form c.requires c.in_ok-form.ensures c.size.result c.size.ensures
    (omega (arith, c.if-size-self.false))

pub returns-clause-lawful : goal.returns-clause-lawful
returns-clause-lawful c = lawful c.args.self.now.declarations.now
