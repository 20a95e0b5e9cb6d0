-- The summands of one more term.
use Rattle.std.proofs.Common.{◌++◌, ap, sym, ◌∙◌}
use Rattle.fvn_forms.specs.Canon.{parts}
use Rattle.fvn_flat.proofs.Summands.{all_parts-push}
use Rattle.fvn_flat.proofs.building.summed.Goals as goal

pub loop-t-preserved : goal.loop-t-preserved
loop-t-preserved c =
    c.in_ok-add_summands.ensures
    ∙ ap (λ l. l ++ parts c.args.sig.now c.args.f c.in-Some.t) c.loop-t.invariant
    ∙ sym (all_parts-push c.args.sig.now c.args.f c.loop-t.yielded c.in-Some.t)
