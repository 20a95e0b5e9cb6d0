-- One more row.
use Rattle.std.proofs.Common.{◌≡◌, ◌+◌, true, false, drop, sym, ap, ◌∙◌, arith}
use Rattle.fvn_refine.specs.inner.Ordering.{is_before, place}
use Rattle.fvn_refine.proofs.InOrder.{place_next, place_here, place_past}
use Rattle.fvn_refine.proofs.ordering.place.Goals as goal

pub loop-i-preserved : goal.loop-i-preserved
loop-i-preserved c =
    let before : is_before c.index-rows-i.result c.args.row.now ≡ true = ap (λ z. is_before z c.args.row.now) (sym c.as_slice.ensures) ∙ sym c.is_before.ensures ∙ c.if-not-is_before.false in
    c.loop-i.invariant ∙ place_next c.args.rows.now c.loop-i.i c.index-rows-i.result c.args.row.now c.loop-i-test.true c.index-rows-i.is before

pub returns-then-not-is_before : goal.returns-then-not-is_before
returns-then-not-is_before c =
    let after : is_before c.index-rows-i.result c.args.row.now ≡ false = ap (λ z. is_before z c.args.row.now) (sym c.as_slice.ensures) ∙ sym c.is_before.ensures ∙ c.if-not-is_before.true in
    let whole : place c.args.rows.now c.args.row.now ≡ c.loop-i.i + place (drop c.loop-i.i c.args.rows.now) c.args.row.now = c.loop-i.invariant in
    omega (arith, whole, place_here c.args.rows.now c.loop-i.i c.index-rows-i.result c.args.row.now c.loop-i-test.true c.index-rows-i.is after)

pub returns : goal.returns
returns c =
    let whole : place c.args.rows.now c.args.row.now ≡ c.loop-i.i + place (drop c.loop-i.i c.args.rows.now) c.args.row.now = c.loop-i.invariant in
    omega (arith, whole, place_past c.args.rows.now c.loop-i.i c.args.row.now c.loop-i-test.false, c.loop-i-test.false, c.loop-i.auto.i-end)
