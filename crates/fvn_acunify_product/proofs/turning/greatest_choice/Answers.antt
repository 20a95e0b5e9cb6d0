-- A cursor that has gone back has every choice of its wheel to come.
use Rattle.std.proofs.Common.{ap, sym, subst}
use Rattle.fvn_acunify_product.specs.Wheels.{IsChoice, wheel_of}
use Rattle.fvn_acunify_product.proofs.WheelSteps.{greatest_of}
use Rattle.fvn_acunify_product.proofs.turning.greatest_choice.Goals as goal

pub returns-clause-greatest : goal.returns-clause-greatest
returns-clause-greatest c =
    greatest_of (wheel_of c.args.wheel.now) c.again.new.self c.next.result (ap wheel_of c.again.ensures.restarted) c.again.ensures.all_pending c.next.ensures.greatest

pub returns-clause-none : goal.returns-clause-none
returns-clause-none c =
    λ e a may. c.next.ensures.exhausted.0 e a (c.again.ensures.all_pending a (subst (λ v. IsChoice v a) (sym (ap wheel_of c.again.ensures.restarted)) may))
