-- What is left on both sides.
use Rattle.std.proofs.Common.{refl, subst}
use Rattle.fvn_combine_inferring.specs.inner.Lists.{IsCancelled, IsWithout}
use Rattle.fvn_combine_inferring.proofs.Splitting.{reduced_is}
use Rattle.fvn_combine_inferring.proofs.rows.reduced.Goals as goal

pub returns : goal.returns
returns c =
    let added = c.in_ok-added.added.items in
    let now = c.cancel.new.left.items in
    let rest = c.in_ok-rest.rest.items in
    let left = c.in_ok-left.left.items in
    let right = c.in_ok-right.right.items in
    reduced_is c.args.splits.now c.args.unit c.args.k c.args.a c.args.b c.in_ok-whole.whole.items added now rest left right
    c.in_ok-added.ensures c.in_ok-whole.ensures
    (subst (λ l. IsCancelled added l now rest) c.as_slice.ensures.value c.in_ok-rest.ensures)
    (subst (λ l. IsWithout c.args.unit l left) c.as_slice-2.ensures.value c.in_ok-left.ensures)
    (subst (λ l. IsWithout c.args.unit l right) c.as_slice-3.ensures.value c.in_ok-right.ensures) _ refl refl
