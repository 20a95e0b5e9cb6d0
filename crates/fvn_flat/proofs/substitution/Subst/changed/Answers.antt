-- One more changed pair.
use Rattle.std.proofs.Common.{◌≡◌, [], ◌∷◌, ◌++◌, take, sym, ap, ◌∙◌, subst}
use Rattle.fvn_forms.specs.Flat.{FlatTerm}
use Rattle.fvn_forms.specs.Canon.{inst}
use Rattle.fvn_forms.specs.Settled.{SettledValues}
use Rattle.fvn_flat.specs.Bindings.{Bindings, value, BindsOnce, changed}
use Rattle.fvn_flat.proofs.Composing.{pair_settled, changed-step}
use Rattle.fvn_flat.proofs.substitution.Subst.changed.Goals as goal

pub loop-x-preserved : goal.loop-x-preserved
loop-x-preserved c =
    let g = inst c.args.sig.now (value c.args.later.now) in
    let items : Bindings = c.deref-x-items.result.now in
    c.in_ok-push.ensures.items
    ∙ ap (λ (l : Bindings). l ++ (c.loop-x-item.result.0, c.in_ok-u.u) ∷ []) c.loop-x.invariant
    ∙ ap (λ (v : FlatTerm). changed g (take c.loop-x.x-index items) ++ (c.loop-x-item.result.0, v) ∷ []) c.in_ok-u.ensures
    ∙ sym (changed-step g items c.loop-x.x-index c.loop-x-item.result c.loop-x-test.true c.loop-x-item.is)

pub instance-requires-clause-flat : goal.instance-requires-clause-flat
instance-requires-clause-flat c =
    let d = c.args.sig.now in
    let items : Bindings = c.deref-x-items.result.now in
    let whole : items ≡ c.args.self.now = c.deref-x-items.ensures.value ∙ c.self.view_is in
    let once : BindsOnce items = subst BindsOnce (sym whole) c.requires.once in
    let first : SettledValues d (value items) = subst (λ (l : Bindings). SettledValues d (value l)) (sym whole) c.requires.first in
    pair_settled d items once first c.loop-x.x-index c.loop-x-item.result c.loop-x-test.true c.loop-x-item.is
