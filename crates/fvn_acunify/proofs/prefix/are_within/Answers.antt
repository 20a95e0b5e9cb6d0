-- One column more, and in the end all of them.
use Rattle.std.proofs.Common.{◌≤◌, slice_index, refl, sym, subst}
use Rattle.std.proofs.lemmas.List.{take_all}
use Rattle.std.proofs.lemmas.List.Elements.{All-more, All-same}
use Rattle.fvn_acunify.proofs.prefix.are_within.Goals as goal

pub loop-j-preserved : goal.loop-j-preserved
loop-j-preserved c =
    All-more (λ j. slice_index c.args.sums.now j ≤ 1) c.args.at_most_one.now c.loop-j.j-index 0 c.loop-j-test.true c.loop-j.invariant (subst (λ n. n ≤ 1) c.sum_in-sum.ensures c.if-sum-gt1.false)

pub returns : goal.returns
returns c =
    (λ _. All-same (λ j. slice_index c.args.sums.now j ≤ 1) c.args.at_most_one.now _ (sym (take_all c.loop-j.j-index c.args.at_most_one.now c.loop-j-test.false)) c.loop-j.invariant, λ _. refl)
