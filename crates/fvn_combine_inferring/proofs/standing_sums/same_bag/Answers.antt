-- Nothing is left of both lists.
use Rattle.std.proofs.Common.{◌≡◌, ◌++◌, length, ap, ◌∙◌, subst}
use Rattle.fvn_combine_inferring.specs.inner.Lists.{IsCancelled}
use Rattle.fvn_combine_inferring.proofs.Standing.{same_sums}
use Rattle.fvn_combine_inferring.proofs.standing_sums.same_bag.Goals as goal

pub returns : goal.returns
returns c t =
    let xs = c.args.xs.now in
    let ys = c.args.ys.now in
    let kept = c.cancel.new.left.items in
    let more = c.in_ok-rest.rest.items in
    let copied = c.in_ok-extend_from_slice.ensures.items ∙ ap (λ l. l ++ xs) c.new-left.ensures.items in
    same_sums xs ys kept more
    (subst (λ l. IsCancelled l ys kept more) copied c.in_ok-rest.ensures)
    (subst (λ l. length l ≡ 0) c.as_slice-kept.ensures.value (c.have_none.ensures t).0)
    (subst (λ l. length l ≡ 0) c.as_slice-more.ensures.value (c.have_none.ensures t).1)
