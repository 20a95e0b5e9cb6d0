-- A start of all places gives the greatest list.
use Rattle.std.proofs.Common.{◌∙◌}
use Rattle.fvn_acunify_product.specs.Tags.{IsOption}
use Rattle.fvn_acunify_product.proofs.Stepping.{restarted_is_greatest, bare_has_none}
use Rattle.fvn_acunify_product.proofs.tags.first.Goals as goal

pub returns-clause-greatest : goal.returns-clause-greatest
returns-clause-greatest c = λ found.
    restarted_is_greatest IsOption c.args.counts.now c.args.numbers.now c.restart.new.numbers (c.restart.auto.numbers ∙ c.requires) (c.restart.ensures.restarted found)

pub returns-clause-none : goal.returns-clause-none
returns-clause-none c = λ e x h.
    let bare = c.restart.ensures.bare e in
    bare_has_none IsOption c.args.counts.now bare.0 bare.2 bare.3 x h
