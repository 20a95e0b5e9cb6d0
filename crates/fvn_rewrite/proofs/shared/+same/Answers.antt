-- One more pair of terms.
use Rattle.std.proofs.Common.{◌≡◌, ◌<◌, ◌≤◌, length, get_or, refl, sym, ap, ◌∙◌, arith}
use Rattle.std.proofs.lemmas.List.{take_all, take_more_same}
use Rattle.fvn_rewrite.proofs.Seen.{parts_fall, weight_at}
use Rattle.fvn_rewrite.proofs.shared.+same.Goals as goal

pub Shared::same-same_all-requires : goal.Shared::same-same_all-requires
Shared::same-same_all-requires t c = (
  omega (
    arith,
    parts_fall c.self.inside.content.value c.as_ref.result.now c.args.self.now c.in-App-App.f c.in-App-App.s c.in-App-App.field-2-0 c.in-App-App.ts c.deref.result.now c.self.view_is c.as_ref.ensures c.in-App-App.is-0 c.deref.ensures.value,
  ),
  tt,
)

pub same_all-same-requires : goal.same_all-same-requires
same_all-same-requires t c = (omega (arith, weight_at c.args.ts.now c.loop-i.i c.index-ts-i.result c.loop-i-test.true c.index-ts-i.is), tt)

pub same_all-loop-i-preserved : goal.same_all-loop-i-preserved
same_all-loop-i-preserved t c =
    let same : c.index-ts-i.result ≡ c.index-us-i.result = c.if-not-same.ensures refl in
    let within : c.loop-i.i < length c.args.us.now = omega (arith, c.loop-i-test.true, c.if-us-count.false) in
    take_more_same c.args.ts.now c.args.us.now c.loop-i.i c.index-ts-i.result c.loop-i-test.true within c.loop-i.invariant (sym c.index-ts-i.is ∙ same ∙ c.index-us-i.is ∙ ap (get_or c.args.us.now c.loop-i.i) (sym same))

pub same_all-returns : goal.same_all-returns
same_all-returns t c =
    let end : length c.args.us.now ≤ c.loop-i.i = omega (arith, c.loop-i-test.false, c.if-us-count.false) in
    λ h. sym (take_all c.loop-i.i c.args.ts.now c.loop-i-test.false) ∙ c.loop-i.invariant ∙ take_all c.loop-i.i c.args.us.now end
