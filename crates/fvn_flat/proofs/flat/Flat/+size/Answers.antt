-- The symbols of the arguments so far.
use Rattle.std.proofs.Common.{◌∙◌, ◌-◌, ◌^◌, min, arith, ap, sym}
use Rattle.fvn_flat.specs.Own.{own}
use Rattle.fvn_flat.proofs.Symbols.{all_symbols-take_more}
use Rattle.fvn_flat.proofs.Views.{symbols_view}
use Rattle.fvn_flat.proofs.flat.Flat.+size.Goals as goal

pub loop-t-preserved : goal.loop-t-preserved
loop-t-preserved t c =
    let e = all_symbols-take_more c.deref-t-items.result.now c.loop-t.t-index c.t-item.result c.loop-t-test.true c.t-item.is in
    grind arith

pub returns-after-loop-t : goal.returns-after-loop-t
returns-after-loop-t t c =
    c.loop-t.invariant
    ∙ ap (λ n. min n (2 ^ 64 - 1))
    (symbols_view c.self.inside.node c.args.self.now c.in-App.field-0 c.in-App.joined c.in-App.ts c.deref-t-items.result.now c.self.view_is c.in-App.is c.deref-t-items.ensures.value c.loop-t.t-index
    c.own_symbols-count.result
    c.loop-t-test.false
    (c.own_symbols-count.ensures ∙ ap (own c.in-App.joined) (c.len.ensures ∙ sym c.deref-t-items.ensures.len)))
