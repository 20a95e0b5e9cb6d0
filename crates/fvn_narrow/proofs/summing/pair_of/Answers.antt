-- The operator takes two summands, and makes their pair.
use Rattle.std.proofs.Common.{sym, ap, ◌∙◌, subst, arith}
use Rattle.fvn_forms.specs.Canon.{build}
use Rattle.fvn_flat.specs.Fits.{AllFit, Takes}
use Rattle.fvn_flat.specs.Forms.{args_of}
use Rattle.fvn_narrow.proofs.Along.{read_at}
use Rattle.fvn_narrow.proofs.Two.{two_items, two_fit, two_takes, is_pair_at}
use Rattle.fvn_narrow.proofs.summing.pair_of.Goals as goal

pub app-requires-clause-fit : goal.app-requires-clause-fit
app-requires-clause-fit c =
    let d = c.args.sig.now in
    let t = c.index-ts-i.result in
    let u = c.index-ts-j.result in
    let low = c.requires.places.0 in
    let high = c.requires.places.1 in
    let first = read_at (args_of c.args.sum.now) c.args-ts.result.now c.args.i t c.args-ts.ensures.exact (omega (arith, low, high)) c.index-ts-i.is in
    let second = read_at (args_of c.args.sum.now) c.args-ts.result.now c.args.j u c.args-ts.ensures.exact high c.index-ts-j.is in
    subst (AllFit d) (sym (two_items c.new-two.result.items c.push.new.self.items c.push-2.new.self.items c.in_ok-copy.field-0 c.in_ok-copy-2.field-0 t u c.new-two.ensures.items c.in_ok-push.ensures.items c.in_ok-push-2.ensures.items c.in_ok-copy.ensures c.in_ok-copy-2.ensures))
    (two_fit d c.recall_good.ensures c.args.f c.args.sum.now c.requires.sum c.args.i c.args.j low t u first second)

pub app-requires-clause-takes : goal.app-requires-clause-takes
app-requires-clause-takes c =
    let d = c.args.sig.now in
    let t = c.index-ts-i.result in
    let u = c.index-ts-j.result in
    let low = c.requires.places.0 in
    let high = c.requires.places.1 in
    let first = read_at (args_of c.args.sum.now) c.args-ts.result.now c.args.i t c.args-ts.ensures.exact (omega (arith, low, high)) c.index-ts-i.is in
    let second = read_at (args_of c.args.sum.now) c.args-ts.result.now c.args.j u c.args-ts.ensures.exact high c.index-ts-j.is in
    subst (Takes d c.args.f) (sym (two_items c.new-two.result.items c.push.new.self.items c.push-2.new.self.items c.in_ok-copy.field-0 c.in_ok-copy-2.field-0 t u c.new-two.ensures.items c.in_ok-push.ensures.items c.in_ok-push-2.ensures.items c.in_ok-copy.ensures c.in_ok-copy-2.ensures))
    (two_takes d c.recall_good.ensures c.args.f c.args.sum.now c.requires.sum c.args.i c.args.j low t u first second)

pub returns : goal.returns
returns c =
    let d = c.args.sig.now in
    let t = c.index-ts-i.result in
    let u = c.index-ts-j.result in
    let low = c.requires.places.0 in
    let high = c.requires.places.1 in
    let first = read_at (args_of c.args.sum.now) c.args-ts.result.now c.args.i t c.args-ts.ensures.exact (omega (arith, low, high)) c.index-ts-i.is in
    let second = read_at (args_of c.args.sum.now) c.args-ts.result.now c.args.j u c.args-ts.ensures.exact high c.index-ts-j.is in
    let items = two_items c.new-two.result.items c.push.new.self.items c.push-2.new.self.items c.in_ok-copy.field-0 c.in_ok-copy-2.field-0 t u c.new-two.ensures.items c.in_ok-push.ensures.items c.in_ok-push-2.ensures.items c.in_ok-copy.ensures c.in_ok-copy-2.ensures in
    is_pair_at d c.recall_good.ensures c.args.f c.args.sum.now c.requires.sum c.args.i c.args.j low t u c.in_ok-pair.pair first second (c.in_ok-pair.ensures.exact ∙ ap (build d c.args.f) items)
