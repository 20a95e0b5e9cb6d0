-- The term that is taken and the sum so far are one sum, so the whole stays the same.
use Rattle.std.proofs.Common.{◌∷◌, ◌++◌, [], sym, ap, ◌∙◌}
use Rattle.fvn_problems.specs.inner.Sorting.{sum_of_all}
use Rattle.fvn_problems.proofs.Sorts.{sum_of_all-last}
use Rattle.fvn_problems.proofs.sorting.sort_sum.Goals as goal

pub loop-a-preserved : goal.loop-a-preserved
loop-a-preserved c =
    c.loop-a.invariant
    ∙ ap (λ xs. sum_of_all c.args.signature.now c.args.f (xs ++ (c.loop-a.whole ∷ []))) c.in-Some-pop.ensures.items
    ∙ sum_of_all-last c.args.signature.now c.args.f c.pop-in-loop-a.new.self.items c.in-Some-pop.a c.loop-a.whole
    ∙ ap (λ w. sum_of_all c.args.signature.now c.args.f (c.pop-in-loop-a.new.self.items ++ (w ∷ []))) (sym c.sort_two-whole.ensures)
