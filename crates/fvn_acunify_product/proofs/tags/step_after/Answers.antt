-- With the later places at 0 the next list comes before all that agree.
use Rattle.std.proofs.Common.{arith}
use Rattle.std.proofs.lemmas.Slice.Zip.{AllZip-long}
use Rattle.fvn_acunify_product.specs.Tags.{IsOption}
use Rattle.fvn_acunify_product.proofs.Skips.{low_has_options, next_after, end_after}
use Rattle.fvn_acunify_product.proofs.tags.step_after.Goals as goal

pub lower-requires : goal.lower-requires
lower-requires c =
    let long = AllZip-long IsOption c.args.counts.now c.args.numbers.now c.requires.options in
    let within = c.requires.within in
    omega (arith, long, within)

pub step-requires : goal.step-requires
step-requires c = low_has_options c.args.counts.now c.args.numbers.now c.lower.new.numbers c.args.place c.requires.options c.lower.ensures

pub returns-clause-next : goal.returns-clause-next
returns-clause-next c = λ found.
    next_after c.args.counts.now c.args.numbers.now c.lower.new.numbers c.args.place c.requires.options c.lower.ensures c.step.new.numbers (c.step.ensures.next found)

pub returns-clause-last : goal.returns-clause-last
returns-clause-last c = λ none.
    end_after c.args.counts.now c.args.numbers.now c.lower.new.numbers c.args.place c.requires.options c.lower.ensures (c.step.ensures.last none)
