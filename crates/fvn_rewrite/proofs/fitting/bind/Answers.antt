-- One more variable bound.
use Rattle.std.proofs.Common.{◌≡◌, None, subst}
use Rattle.fvn_terms.specs.Signature.{AtOrBelow}
use Rattle.fvn_rewrite.specs.inner.Fitting.{SortedBindings, sorted_bound}
use Rattle.fvn_rewrite.proofs.Bound.{fitted_new}
use Rattle.fvn_rewrite.proofs.fitting.bind.Goals as goal

pub returns-in_ok-push-in-None : goal.returns-in_ok-push-in-None
returns-in_ok-push-in-None c =
    let d = c.args.sig.now in
    let x = c.args.x in
    let below = subst (λ s. AtOrBelow d s x.sort) c.sort.ensures (c.leq-below.ensures.0 c.if-not-below.false) in
    let free = subst (λ (l : SortedBindings). sorted_bound l x ≡ None) c.as_slice.ensures.value (rw c.in-None.is at c.is_bound_to-known.ensures) in
    fitted_new d x c.args.v.now c.in_ok-w-in-None.w c.args.bound.items c.push.new.self.items c.requires.bindings c.requires.value below free c.in_ok-w-in-None.ensures c.in_ok-push-in-None.ensures.items
