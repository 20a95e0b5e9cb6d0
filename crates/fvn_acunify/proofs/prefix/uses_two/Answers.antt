-- A column's part is taken from what is left of 1; where it is more, there is more than 1 in all.
use Rattle.std.proofs.Common.{refl, ap, sym, arith}
use Rattle.std.proofs.lemmas.Bool.{true≢false}
use Rattle.std.proofs.lemmas.List.{drop_all}
use Rattle.fvn_acunify.specs.inner.Prefix.{share}
use Rattle.fvn_acunify.proofs.ColumnSums.{share-drop_more}
use Rattle.fvn_acunify.proofs.prefix.uses_two.Goals as goal

pub loop-c-preserved : goal.loop-c-preserved
loop-c-preserved c =
    let more = share-drop_more c.args.constants.now c.args.parts.now c.loop-c.c-index 0 _ c.loop-c-test.true refl in
    omega (arith, more, c.loop-c.invariant, c.if-part-left.false)

pub returns-then-part-left : goal.returns-then-part-left
returns-then-part-left c =
    let more = share-drop_more c.args.constants.now c.args.parts.now c.loop-c.c-index 0 _ c.loop-c-test.true refl in
    (λ _. omega (arith, more, c.loop-c.invariant, c.if-part-left.true), λ _. refl)

pub returns : goal.returns
returns c =
    let none = ap (λ l. share l c.args.parts.now) (drop_all c.loop-c.c-index c.args.constants.now c.loop-c-test.false) in
    (λ e. absurd (true≢false (sym e)), λ h. absurd (omega (arith, none, c.loop-c.invariant, h)))
