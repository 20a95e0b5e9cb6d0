-- One column more that is not touched, and in the end all of them.
use Rattle.std.proofs.Common.{refl, ap, sym, ◌∙◌, arith}
use Rattle.std.proofs.lemmas.Bool.{true≢false}
use Rattle.std.proofs.lemmas.List.{take_all}
use Rattle.fvn_acunify.specs.ValidChoice.{touched}
use Rattle.fvn_acunify.proofs.ColumnSums.{touched-some, touched-take_more}
use Rattle.fvn_acunify.proofs.prefix.is_zero_in.Goals as goal

pub returns-then-part-gt0 : goal.returns-then-part-gt0
returns-then-part-gt0 c =
    let some = touched-some c.args.columns.now c.args.parts.now c.loop-c.c-index _ _ c.loop-c-test.true c.part_in-part.ensures c.if-part-gt0.true in
    (λ e. absurd (true≢false (sym e)), λ none. absurd (omega (arith, none, some)))

pub loop-c-preserved : goal.loop-c-preserved
loop-c-preserved c =
    touched-take_more c.args.columns.now c.args.parts.now c.loop-c.c-index _ _ c.loop-c-test.true c.part_in-part.ensures c.if-part-gt0.false c.loop-c.invariant

pub returns : goal.returns
returns c =
    (λ _. ap (λ l. touched l c.args.parts.now) (sym (take_all c.loop-c.c-index c.args.columns.now c.loop-c-test.false)) ∙ c.loop-c.invariant, λ _. refl)
