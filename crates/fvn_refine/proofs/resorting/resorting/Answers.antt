-- Where one of the lists ends, all is done.
use Rattle.std.proofs.Common.{◌≡◌, length, sym, ◌∙◌, inl, inr}
use Rattle.std.specs.Prelude.{◌⊎◌}
use Rattle.fvn_refine.proofs.Resorted.{resorted_ended}
use Rattle.fvn_refine.proofs.resorting.resorting.Goals as goal

pub returns : goal.returns
returns c =
    let ys = c.loop-y.y-iterator.a.rest.now in
    let ws = c.loop-y.y-iterator.b.rest.now in
    let ended : (length ys ≡ 0) ⊎ (length ws ≡ 0) = elim c.in-None.ensures.steps [ inl p ↦ inl p.1.0 | inr p ↦ inr p.1.0 ] in
    sym (c.loop-y.invariant ∙ resorted_ended c.loop-y.all ys ws ended)
