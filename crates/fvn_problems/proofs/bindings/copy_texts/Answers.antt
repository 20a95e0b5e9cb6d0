-- One more text is copied.
use Rattle.std.proofs.Common.{ap, ◌∙◌}
use Rattle.fvn_syntax.specs.Texts.{with_text}
use Rattle.fvn_problems.proofs.Writing.{with-next}
use Rattle.fvn_problems.proofs.bindings.copy_texts.Goals as goal

pub loop-i-preserved : goal.loop-i-preserved
loop-i-preserved c =
    c.in_ok-insert.ensures.texts ∙ ap (λ t. with_text t c.text.result.now) c.loop-i.invariant
    ∙ with-next c.args.texts.now c.text.result.now c.loop-i.i c.are_distinct.ensures c.text.ensures
