-- All pairs together are circular.
use Rattle.std.proofs.Common.{sym, ◌∙◌, subst}
use Rattle.fvn_combine_inferring.specs.inner.Sizes.{AreSaid}
use Rattle.fvn_combine_inferring.proofs.Pairing.{all_said}
use Rattle.fvn_combine_inferring.proofs.holding.is_held_within.Goals as goal

pub returns : goal.returns
returns c t w held inside =
    c.is_circular-circular.ensures t w
    (subst (AreSaid w) (sym (c.as_slice.ensures.value ∙ c.in_ok-extend_from_slice.ensures.items))
    (all_said w c.args.held.now.items c.args.insides.now held inside))
