-- A move of the last place that can, and a start of those after it, give the next list.
use Rattle.std.proofs.Common.{refl, ◌∙◌}
use Rattle.std.proofs.lemmas.Slice.Zip.{AllZip-long}
use Rattle.fvn_acunify_product.specs.Tags.{IsOption}
use Rattle.fvn_acunify_product.proofs.Stepping.{lasts_are_an_end, moved_is_next, bare_has_none}
use Rattle.fvn_acunify_product.proofs.tags.step.Goals as goal

pub returns-in-None-clause-last : goal.returns-in-None-clause-last
returns-in-None-clause-last c = λ _ x h b.
    lasts_are_an_end IsOption c.args.counts.now c.args.numbers.now x (AllZip-long IsOption _ _ c.requires) (c.in-None.ensures.last refl) h b

pub returns-in-Some-clause-next : goal.returns-in-Some-clause-next
returns-in-Some-clause-next c = λ found.
    moved_is_next IsOption c.args.counts.now c.in-Some.place c.args.numbers.now c.move_last.new.numbers c.restart.new.numbers
    (c.restart.auto.numbers ∙ c.move_last.auto.numbers ∙ AllZip-long IsOption _ _ c.requires)
    c.requires c.in-Some.ensures.moved (c.restart.ensures.restarted found)

pub returns-in-Some-clause-last : goal.returns-in-Some-clause-last
returns-in-Some-clause-last c = λ e x h b.
    let bare = c.restart.ensures.bare e in
    absurd (bare_has_none IsOption c.args.counts.now bare.0 bare.2 bare.3 x h)
