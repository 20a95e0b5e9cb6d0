-- One more substitution.
use Rattle.std.proofs.Common.{sym, subst, ◌∙◌}
use Rattle.std.proofs.lemmas.List.{take_all}
use Rattle.fvn_base.specs.declared.limits.TheConstants.{NEXT_FRESH}
use Rattle.fvn_cover.proofs.Leftovers.{all_at}
use Rattle.fvn_refine.specs.Refinements.{variables_of_terms}
use Rattle.fvn_axunify.specs.inner.Numbers.{AreBelow, IsAbove, IsAboveAll}
use Rattle.fvn_axunify.proofs.Above.{above_all_none, above_all_more}
use Rattle.fvn_axunify.proofs.numbers.above_all.Goals as goal

pub loop-s-init : goal.loop-s-init
loop-s-init c = above_all_none c.args.first c.requires.low

pub above-next-requires-clause-low : goal.above-next-requires-clause-low
above-next-requires-clause-low c = c.loop-s.invariant.small

pub above-next-requires-clause-below : goal.above-next-requires-clause-below
above-next-requires-clause-below c = subst (AreBelow NEXT_FRESH) (sym (c.as_slice.ensures.value ∙ c.in_ok-vars.ensures)) (all_at (λ s. AreBelow NEXT_FRESH (variables_of_terms s)) c.args.unifiers.now c.loop-s.s-index c.s-item.result c.requires.below c.loop-s-test.true c.s-item.is)

pub loop-s-preserved : goal.loop-s-preserved
loop-s-preserved c =
    above_all_more c.args.first c.args.unifiers.now c.loop-s.s-index _ c.loop-s-test.true c.s-item.is c.loop-s.next c.above-next.result c.loop-s.invariant
    (subst (λ l. IsAbove c.loop-s.next l c.above-next.result) (c.as_slice.ensures.value ∙ c.in_ok-vars.ensures) c.above-next.ensures)

pub returns : goal.returns
returns c = subst (λ l. IsAboveAll c.args.first l c.loop-s.next) (take_all c.loop-s.s-index c.args.unifiers.now c.loop-s-test.false) c.loop-s.invariant
