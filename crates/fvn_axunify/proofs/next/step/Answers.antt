-- What the combiner answers is what the step gives.
use Rattle.std.proofs.Common.{Ok, Err, ◌∙◌, ap, subst}
use Rattle.fvn_combine.specs.Advancing.{IsAdvanced}
use Rattle.fvn_axunify.proofs.next.step.Goals as goal

pub returns-in-Ok-None-clause-next : goal.returns-in-Ok-None-clause-next
returns-in-Ok-None-clause-next c =
    subst (IsAdvanced c.args.combiner.now c.advance.new.self) (c.in-Ok-None.is ∙ ap Ok c.in-Ok-None.field-0-is) (c.advance.ensures.advanced c.requires)

pub returns-in-Err-Basis-clause-next : goal.returns-in-Err-Basis-clause-next
returns-in-Err-Basis-clause-next c =
    subst (λ e. IsAdvanced c.args.combiner.now c.advance.new.self (Err e)) c.in-Err-Basis.field-0-is (c.in-Err-Basis.ensures.advanced c.requires)
