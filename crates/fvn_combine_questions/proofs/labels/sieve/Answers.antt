-- One operator less is noted.
use Rattle.std.proofs.Common.{◌<◌, sym, subst}
use Rattle.fvn_combine_questions.specs.inner.Labels.{IsSomeAt, some_of}
use Rattle.fvn_combine_questions.proofs.Labelled.{some_less}
use Rattle.fvn_combine_questions.proofs.labels.sieve.Goals as goal

pub loop-k-smaller : goal.loop-k-smaller
loop-k-smaller c =
    let at = subst (λ labels. IsSomeAt labels c.in-Some.k) c.as_slice.ensures.value c.in-Some.ensures in
    subst (λ labels. some_of labels < some_of c.loop-k.labels.items) (sym c.take_out.ensures) (some_less c.loop-k.labels.items c.in-Some.k at.operator at.noted)
