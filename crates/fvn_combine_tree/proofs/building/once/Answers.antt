-- One more number.
use Rattle.std.proofs.Common.{◌≡◌, true, false, [], ◌∷◌, ◌++◌, take, get_or, sym, ap, ◌∙◌}
use Rattle.std.proofs.lemmas.List.{take_more}
use Rattle.fvn_combine_tree.specs.inner.Drafts.{once_each}
use Rattle.fvn_combine_nodes.proofs.Lists.{has}
use Rattle.fvn_combine_tree.proofs.Once.{once_each-there, once_each-new}
use Rattle.fvn_combine_tree.proofs.building.once.Goals as goal
use Rattle.fvn_combine_tree.proofs.building.once.Goals.{then-not-contains+in_ok-push, else-not-contains}

pub loop-i-preserved : goal.loop-i-preserved
loop-i-preserved c =
    let i = c.loop-i.i-index in
    let walk = c.args.walk.now in
    let x = get_or walk i 0 in
    let so_far = take i walk in
    let more = take_more walk i 0 c.loop-i-test.true in
    let test : c.contains.result ≡ has x (once_each so_far) = c.contains.ensures.value ∙ ap (has x) (c.as_slice.ensures.value ∙ c.loop-i.invariant) in
    elim c.if-not-contains.branch [
      | then-not-contains+in_ok-push w ↦
          let new : has x (once_each so_far) ≡ false = sym test ∙ w.if-not-contains.true in
          ap (λ v. v.items) w.list-is ∙ w.in_ok-push.ensures.items ∙ ap (λ l. l ++ x ∷ []) c.loop-i.invariant ∙ sym (ap once_each more ∙ once_each-new so_far x new)
      | else-not-contains w ↦
          let there : has x (once_each so_far) ≡ true = sym test ∙ w.if-not-contains.false in
          ap (λ v. v.items) w.list-is ∙ c.loop-i.invariant ∙ sym (ap once_each more ∙ once_each-there so_far x there)
    ]
