-- Each argument counts once.
use Rattle.std.proofs.Common.{ap, ◌∙◌}
use Rattle.fvn_weights_reading.proofs.Texts.{weight}
use Rattle.fvn_weights_reading.proofs.reading.plain_weight.Goals as goal

pub returns : goal.returns
returns c = ap (λ cs. weight cs 0) (c.from_vec.ensures ∙ c.in_ok-ones.ensures.items_if_clones_equal (λ y e. e))
